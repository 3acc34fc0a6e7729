-- `put_bytes`: the header's three bytes, and the arcs after them.
use Rattle.network_pack.proofs.Written.{whole_written}
use Rattle.network.proofs.Laws.{sizes}
use native.Mathlib.Omega.{arith}
use Rattle.network_pack.proofs.put_bytes.Goals as goal

pub overflow_sub-net : goal.overflow_sub-net
overflow_sub-net c = let s = sizes c.args.net.now in omega arith

pub halves-requires : goal.halves-requires
halves-requires c = let s = sizes c.args.net.now in (omega arith, omega arith)

pub halves-requires-2 : goal.halves-requires-2
halves-requires-2 c = let s = sizes c.args.net.now in (omega arith, omega arith)

pub returns : goal.returns
returns c = whole_written c.args.net.now _ _ _ _ c.requires c.halves.ensures c.halves-2.ensures c.put_arcs.ensures
