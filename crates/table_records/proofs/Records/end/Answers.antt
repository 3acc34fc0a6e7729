-- `end`: the cursor's place is small.
use Rattle.table_records.proofs.Steps.{narrow}
use native.Mathlib.Omega.{arith}
use Rattle.table_records.proofs.Records.end.Goals as goal

pub ending_at-requires : goal.ending_at-requires
ending_at-requires c =
    let r = c.args.self.now in
    omega (arith, (narrow r.file.now r.sound r.walked).0)
