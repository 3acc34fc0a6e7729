-- `ending`: the records are those of the same file.
use mathlib.Core.Path.{◌≡◌}
use Rattle.bits.specs.Bits.{bits_of}
use Rattle.table_records.proofs.Steps.{left}
use Rattle.table_records.proofs.Records.ending.Given as goal

abbrev pub invariant-loop : goal.invariant-loop
invariant-loop l = (l.records.file.now ≡ l.fn.self.file.now) × (l.records.header ≡ l.fn.self.header)

abbrev pub decreases-loop : goal.decreases-loop
decreases-loop l = left l.records.header (bits_of l.records.file.now) l.records.cursor
