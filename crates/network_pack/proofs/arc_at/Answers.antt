-- `arc_at`: an accepted network has at most 240 arcs, and each fits.
use Rattle.network_pack.proofs.Written.{arc_fits}
use Rattle.network.proofs.Laws.{sizes}
use native.Mathlib.Omega.{arith}
use Rattle.network_pack.proofs.arc_at.Goals as goal

pub bounds-net-k : goal.bounds-net-k
bounds-net-k c = let s = sizes c.args.net.now in omega arith

pub returns-clause-fits : goal.returns-clause-fits
returns-clause-fits c = rw c.from.ensures (arc_fits c.args.net.now c.args.k c.requires)
