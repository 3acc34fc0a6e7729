-- What the public calls that take a table file answer, and what they leave in a lent room; and what a file that is written leaves there.
use Rattle.std.specs.Prelude.{◌≡◌, Result, Ok, Err, List, ◌++◌, ℕ, ◌*◌, length}
use Rattle.bits.specs.Bits.{bits_of}
use Rattle.method.specs.Room.{begins}
use Rattle.method.specs.Marks.{entry_numbers}
use Rattle.refusal.specs.Rows.{Refusal}
use Rattle.refusal.specs.Rows.{Row, none, room_rows, first, answer}
use Rattle.table.specs.File.{one}
use Rattle.table.specs.Reader.{header_at, file_rows, Reading, refused, accepted, reading, entry_in, Read, refusal, says, entry_read}
use Rattle.call.specs.Answers.{values, entry_values}

-- one entry: the refusal's number only, or the entry
abbrev pub read_refusal : Read → Refusal
read_refusal (refusal r) = r
read_refusal (says e) = none

abbrev pub read_answer : Read → ℕ
read_answer (refusal r) = r.number
read_answer (says e) = entry_values e

-- numbers that are written into a room from its start on: how many, or 13 if the room is short
abbrev pub outcome : List ℕ → List ℕ → Result ℕ Refusal
outcome what room = answer (first (room_rows (length room) (length what))) Err (Ok (length what))

-- "A refusal yields its number only and writes nothing." "Bytes of the room beyond the file stay."
abbrev pub room_after : List ℕ → List ℕ → List ℕ
room_after what room = answer (first (room_rows (length room) (length what))) (λ r. room) (begins what room)

-- all entries of a file: its own refusal comes before 13
abbrev pub entries_outcome : Reading → List ℕ → Result ℕ Refusal
entries_outcome (refused r) room = Err r
entries_outcome (accepted h es mark) room = outcome (entry_numbers (entry_in h es mark) h.n) room

-- and what they leave in the room
abbrev pub table_room : Reading → List ℕ → List ℕ
table_room (refused r) room = room
table_room (accepted h es mark) room = room_after (entry_numbers (entry_in h es mark) h.n) room

-- the rows of the two: all entries of a file are 2 × n numbers
abbrev pub table_rows : List ℕ → ℕ → List Row
table_rows s wide = file_rows one s ++ room_rows wide (2 * (header_at one (bits_of s)).n)

-- an outcome as a refusal, and as one answer: how many numbers were written, or the refusal's number only
abbrev pub outcome_refusal : Result ℕ Refusal → Refusal
outcome_refusal (Ok k) = none
outcome_refusal (Err r) = r

abbrev pub outcome_answer : Result ℕ Refusal → ℕ
outcome_answer (Ok k) = values k 0
outcome_answer (Err r) = r.number

-- zaq_read_entry
abbrev pub ReadPromise : List ℕ → ℕ → ℕ → Type 0
ReadPromise file y r = r ≡ read_answer (entry_read one file y)

-- zaq_read_table
pub record TablePromise (file room : List ℕ) (r : ℕ) (room' : List ℕ) : Type 0 where
  pub answer : r ≡ outcome_answer (entries_outcome (reading one file) room)
  pub left : room' ≡ table_room (reading one file) room
