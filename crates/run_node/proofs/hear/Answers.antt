-- `hear`: the end, a label with or without an entry, a length.
use mathlib.Core.Path.{refl, sym, ◌∙◌}
use Prim.Native.Nat.{◌+◌, ◌-◌}
use native.Mathlib.Omega.{arith}
use Rattle.run_cells.specs.Part.{label_most, no_sum, numbers}
use Rattle.run_cells.proofs.Fields.{store_sum}
use Rattle.run_cells.proofs.Loads.{mark_is, sent_is, filled_is}
use Rattle.run_node.proofs.Coded.{hears_end, hears_length, hears_known, hears_new}
use Rattle.run_node.proofs.hear.Goals as goal

pub returns-then-part-message-ne0 : goal.returns-then-part-message-ne0
returns-then-part-message-ne0 c =
    let a = c.args in
    let p = a.part.now in
    hears_known (numbers p) (numbers p) a.chosen.head a.chosen.sum a.message (omega arith) (omega arith)
    (λ e. c.if-part-message-ne0.true (sym (mark_is p a.message (omega arith)) ∙ e)) refl

pub fill-requires : goal.fill-requires
fill-requires c =
    let p = c.args.part.now in
    let none = mark_is p c.args.message (omega arith) ∙ c.if-part-message-ne0.false in
    let r = c.requires.3 (omega arith) (omega arith) none in
    (c.requires.2, omega arith, omega (arith, r.0, sent_is p), omega (arith, r.1, filled_is p))

pub returns-in-0 : goal.returns-in-0
returns-in-0 c =
    let a = c.args in
    let p = a.part.now in
    hears_end (numbers p) _ a.chosen.head a.chosen.sum a.message c.in-0.is
    (store_sum p a.chosen.head no_sum (omega arith) (omega arith))

pub returns-else-part-message-ne0 : goal.returns-else-part-message-ne0
returns-else-part-message-ne0 c =
    let a = c.args in
    let p = a.part.now in
    hears_new (numbers p) (numbers c.fill.new.self) a.chosen.head a.chosen.sum a.message (omega arith) (omega arith)
    (mark_is p a.message (omega arith) ∙ c.if-part-message-ne0.false) c.fill.ensures

pub returns-in_default : goal.returns-in_default
returns-in_default c =
    let a = c.args in
    let p = a.part.now in
    hears_length (numbers p) _ a.chosen.head a.chosen.sum a.message (omega arith)
    (store_sum p a.chosen.head (a.chosen.sum + (a.message - label_most)) (omega arith) (omega arith))
