-- `read_entry`: the target's record among those taken so far.
use mathlib.Core.Path.{◌≡◌}
use Rattle.bits.specs.Bits.{bits_of}
use Rattle.method.specs.Entries.{find}
use Rattle.table_records.specs.Walk.{before}
use Rattle.table_records.proofs.Steps.{left}
use Rattle.table_reader.specs.Code.{found_of}
use Rattle.table_reader.proofs.read_entry.Given as goal

abbrev pub invariant-loop-record : goal.invariant-loop-record
invariant-loop-record l =
    (l.records.file.now ≡ l.file)
    × (found_of l.found ≡ find l.target (before l.records.header (bits_of l.records.file.now) l.records.cursor.at))

abbrev pub decreases-loop-record : goal.decreases-loop-record
decreases-loop-record l = left l.records.header (bits_of l.records.file.now) l.records.cursor
