-- `house_table`: the input's two parts are run, and the outcome is written.
use mathlib.Core.Path.{◌∙◌}
use Rattle.house.proofs.Parts.{parts_text}
use Rattle.house.proofs.Texts.{same_front, refused_text}
use Rattle.house.proofs.house_table.Goals as goal

pub returns-in-Err-clause-text : goal.returns-in-Err-clause-text
returns-in-Err-clause-text c =
    let split = c.split_at.ensures in
    let parts = parts_text c.args.input.now c.network_end.result c.network_end.ensures split.front split.back in
    let line = refused_text _ _ c.in-Err.reason c.in-Err.ensures.refused in
    same_front _ _ _ _ _ (rw (c.from-in-Err.ensures, c.from.ensures) (line ∙ parts)) c.refused.ensures

pub returns-in-Ok-clause-text : goal.returns-in-Ok-clause-text
returns-in-Ok-clause-text c =
    let split = c.split_at.ensures in
    let parts = parts_text c.args.input.now c.network_end.result c.network_end.ensures split.front split.back in
    same_front _ _ _ _ _ (c.in-Ok.ensures.table.1 ∙ parts) c.house.ensures
