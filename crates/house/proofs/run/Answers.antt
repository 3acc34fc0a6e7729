-- `run`: an accepted network's run is not refused, and hands over the table.
use mathlib.Core.Path.{◌≡◌, ◌∙◌}
use native.Mathlib.Omega.{arith}
use borrow.Author.Rules.{rules}
use Rattle.refusal.specs.Told.{number_of}
use Rattle.network.specs.Checked.{from_bytes}
use Rattle.house.proofs.Texts.{no_thirteen, nodes_few, handed_text}
use Rattle.house.proofs.run.Goals as goal

pub returns-in_err-run-clause-refused : goal.returns-in_err-run-clause-refused
returns-in_err-run-clause-refused c =
    let is = c.in_ok-network.ensures in
    let ran = c.in_err-run.ensures _ is in
    let e : number_of c.in_err-run.field-0.0 ≡ (from_bytes c.args.network.now).refused =
    ran.answer ∙ no_thirteen _ _ is _ (omega arith) ∙ is.refused in
    search rules

pub returns-clause-table : goal.returns-clause-table
returns-clause-table c =
    let is = c.in_ok-network.ensures in
    let ran = c.run.ensures _ is in
    rw c.from-n.ensures (nodes_few _ _ is, handed_text _ _ is _ (omega arith) _ _ _ _ _ ran)
