-- `push_records`: those before the next are added.
use mathlib.Core.Path.{◌≡◌}
use Prim.Native.Nat.{◌+◌, ◌*◌}
use lib.ListN.{length, take}
use Rattle.method.specs.Entries.{last_distance}
use Rattle.table.specs.File.{one}
use Rattle.table_writer.specs.Lent.{newest_first}
use Rattle.table_writer.specs.Code.{records_bits}
use Rattle.table_writer.specs.Adds.{place, Adds}
use Rattle.table_writer.proofs.Begun.push_records.Given as goal

abbrev pub invariant-loop-record : goal.invariant-loop-record
invariant-loop-record l =
    (length l.room ≡ length l.initial.room) × (place l.self ≡ place l.initial.self + 13 * l.record-index)
    × (l.before ≡ last_distance (newest_first (take l.record-index l.records)))
    × Adds l.initial.room l.initial.self l.room l.self (records_bits one (newest_first (take l.record-index l.records)))
