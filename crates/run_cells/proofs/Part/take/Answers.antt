-- `take`: one number more, or nothing.
use mathlib.Core.Path.{◌≡◌, ap, sym, ◌∙◌}
use Prim.Native.Nat.{ℕ, ◌+◌}
use lib.ListN.{get_or}
use native.Mathlib.Omega.{arith}
use Rattle.std.specs.Prelude.{Some}
use Rattle.run_cells.specs.Part.{taken_at, numbers}
use Rattle.run_cells.specs.Stores.{upd, raised}
use Rattle.run_cells.proofs.Fields.{store_taken}
use Rattle.run_cells.proofs.Loads.{delivered_is, taken_is}
use Rattle.run_cells.proofs.Stored.{none_waits, one_waits}
use Rattle.run_cells.proofs.Part.take.Goals as goal

pub returns-then-self-head : goal.returns-then-self-head
returns-then-self-head c =
    let p = c.args.self.now in
    let h = c.args.head in
    let n = none_waits (numbers p) h (omega (arith, delivered_is p h (omega arith), taken_is p h (omega arith))) in
    (sym n.0, sym n.1)

pub returns : goal.returns
unfolding raised
returns c =
    let p = c.args.self.now in
    let h = c.args.head in
    let t = get_or p.taken h 0 in
    let e : numbers p (taken_at + h) ≡ t = taken_is p h (omega arith) in
    let n = one_waits (numbers p) h (omega (arith, delivered_is p h (omega arith), e)) in (
      store_taken p h (t + 1) (omega arith) (omega arith) ∙ ap (λ (k : ℕ). upd (numbers p) (taken_at + h) (k + 1)) (sym e) ∙ sym n.0,
      ap Some (sym e) ∙ sym n.1,
    )
