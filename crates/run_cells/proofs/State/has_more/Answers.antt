-- `has_more`: the two numbers by the site's halves.
use mathlib.Core.Path.{sym, ap₂}
use Prim.Native.Nat.{◌+◌}
use lib.Dec.{ltb}
use native.Mathlib.Omega.{arith}
use Rattle.run_cells.proofs.Stored.{next_delivered, next_sent}
use Rattle.run_cells.proofs.State.has_more.Goals as goal

pub returns : goal.returns
returns c =
    let s = c.args.self.now in
    let t = c.places-tail.result.0 in
    let h = c.places-tail.result.1 in
    rw (← c.places-tail.ensures.0, ← c.places-tail.ensures.1)
    (sym (ap₂ ltb (next_delivered s t (omega arith) (h + 1) (omega arith)) (next_sent s h (omega arith))))
