-- `hand_over`: a store in one part.
use mathlib.Core.Path.{sym, ap, ◌∙◌}
use Prim.Native.Nat.{◌+◌}
use native.Mathlib.Omega.{arith}
use Rattle.run_cells.specs.Part.{Part, delivered_at}
use Rattle.run_cells.specs.Stores.{raised}
use Rattle.run_cells.proofs.Stored.{blank, next_part, store_next, named}
use Rattle.run_cells.proofs.State.hand_over.Goals as goal

pub deliver-requires : goal.deliver-requires
deliver-requires c =
    let s = c.args.self.now in
    let t = c.places-tail.result.0 in
    let h = c.places-tail.result.1 in
    let small = rw (← c.places-tail.ensures.0, ← c.places-tail.ensures.1) at c.requires in
    (omega arith, omega (arith, small, ap (λ (f : Part). f (delivered_at + (h + 1))) (next_part s t blank (omega arith))))

pub returns : goal.returns
returns c =
    let s = c.args.self.now in
    let t = c.places-tail.result.0 in
    let h = c.places-tail.result.1 in
    rw (← c.places-tail.ensures.0, ← c.places-tail.ensures.1)
    (named
    (c.deliver.ensures ∙ ap (λ (f : Part). raised f (delivered_at + (h + 1))) (sym (next_part s t blank (omega arith))))
    (store_next s t c.deliver.new.self (omega arith)))
