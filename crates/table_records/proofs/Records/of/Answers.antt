-- `of`: before the first record.
use Rattle.table_records.proofs.Walk.{at_begin}
use Rattle.table_records.proofs.Steps.{stays}
use Rattle.table_records.proofs.Records.of.Goals as goal

pub invariant_of-result : goal.invariant_of-result
invariant_of-result c = record { sound = c.in_ok-header.ensures; walked = stays (at_begin _ _) }
