-- `waits_for`: the number by the site's upper half.
use mathlib.Core.Path.{sym, ap, ◌∙◌}
use Prim.Native.Nat.{ℕ, ◌+◌}
use lib.Dec.{eqb}
use native.Mathlib.Omega.{arith}
use Rattle.run_cells.proofs.Stored.{next_waits}
use Rattle.run_cells.proofs.State.waits_for.Goals as goal

pub returns : goal.returns
returns c =
    let t = c.places-tail.result.0 in
    let h = c.places-tail.result.1 in
    rw (← c.places-tail.ensures.0, ← c.places-tail.ensures.1)
    (ap (λ (w : ℕ). eqb w (h + 1)) (c.from.ensures ∙ sym (next_waits c.args.self.now t (omega arith))))
