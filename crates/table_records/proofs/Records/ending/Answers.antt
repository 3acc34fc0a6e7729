-- `ending`: each step brings the cursor nearer to the end.
use mathlib.Core.Path.{◌∙◌, ap}
use Rattle.std.specs.Prelude.{Ok}
use Rattle.table_records.proofs.Steps.{steps_nearer}
use Rattle.table_records.proofs.Records.ending.Goals as goal

pub loop-smaller : goal.loop-smaller
loop-smaller c =
    let next = c.next.ensures in
    steps_nearer c.loop.records c.next.new.self next.same _ next.steps _ (c.in_ok-next.was ∙ ap Ok c.in-Some.is)
