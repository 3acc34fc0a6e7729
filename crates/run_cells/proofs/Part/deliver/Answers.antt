-- `deliver`: one number more.
use mathlib.Core.Path.{ap, sym, ◌∙◌}
use Prim.Native.Nat.{ℕ, ◌+◌}
use lib.ListN.{get_or}
use native.Mathlib.Omega.{arith}
use Rattle.run_cells.specs.Part.{delivered_at, numbers}
use Rattle.run_cells.specs.Stores.{upd, raised}
use Rattle.run_cells.proofs.Fields.{store_delivered}
use Rattle.run_cells.proofs.Loads.{delivered_is}
use Rattle.run_cells.proofs.Part.deliver.Goals as goal

pub overflow_add-self : goal.overflow_add-self
overflow_add-self c =
    let a = c.args in
    omega (arith, c.requires, delivered_is a.self.now a.head (omega arith))

pub returns : goal.returns
unfolding raised
returns c =
    let p = c.args.self.now in
    let h = c.args.head in
    store_delivered p h (get_or p.delivered h 0 + 1) (omega arith) (omega arith)
    ∙ ap (λ (n : ℕ). upd (numbers p) (delivered_at + h) (n + 1)) (sym (delivered_is p h (omega arith)))
