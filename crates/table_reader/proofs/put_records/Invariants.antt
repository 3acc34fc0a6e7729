-- `put_records`: the room has the records taken so far.
use mathlib.Core.Path.{◌≡◌}
use lib.ListN.{length}
use Rattle.bits.specs.Bits.{bits_of}
use Rattle.table_records.specs.Walk.{before}
use Rattle.table_records.proofs.Steps.{left}
use Rattle.table_reader.specs.Listing.{with_records}
use Rattle.table_reader.proofs.put_records.Given as goal

abbrev pub invariant-loop-record : goal.invariant-loop-record
invariant-loop-record l =
    (l.records.file.now ≡ l.fn.records.file.now) × (l.records.header ≡ l.fn.records.header)
    × (length l.room ≡ length l.initial.room)
    × (l.room ≡ with_records (before l.records.header (bits_of l.records.file.now) l.records.cursor.at) l.initial.room)

abbrev pub decreases-loop-record : goal.decreases-loop-record
decreases-loop-record l = left l.records.header (bits_of l.records.file.now) l.records.cursor
