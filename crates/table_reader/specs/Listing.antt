-- How the code stores all entries of a file in a room, one after the other.
use Rattle.std.specs.Prelude.{ℕ, zero, suc, ◌-◌, ◌*◌, List, [], ◌∷◌, length, Result, Ok, Err}
use Rattle.std.proofs.lemmas.List.Edits.{sets}
use Rattle.refusal.specs.Rows.{Refusal, first, answer, room_rows}
use Rattle.method.specs.Rules.{Filled}
use Rattle.method.specs.Entries.{Entry}
use Rattle.method.specs.Marks.{distance_of, hop_of}

-- the room with an entry for y
abbrev pub with_entry : List ℕ → ℕ → ℕ → ℕ → List ℕ
with_entry room y distance hop = sets room (2 * (y - 1)) (distance ∷ hop ∷ [])

-- with one entry for each of 1 to k
unfoldable pub with_absent : Entry → ℕ → List ℕ → List ℕ
with_absent x zero room = room
with_absent x (suc k) room = with_entry (with_absent x k room) (suc k) (distance_of x) (hop_of x)

-- with records, newest first
unfoldable pub with_records : List Filled → List ℕ → List ℕ
with_records [] room = room
with_records (e ∷ es) room = with_entry (with_records es room) e.target e.distance e.hop

-- for a house of n: 13 if the room is short
abbrev pub all_outcome : ℕ → List ℕ → Result ℕ Refusal
all_outcome n room = answer (first (room_rows (length room) (2 * n))) Err (Ok (2 * n))

-- else what a missing record says for each target, the records, and the node itself
abbrev pub all_room : ℕ → ℕ → Entry → List Filled → List ℕ → List ℕ
all_room own n x es room =
    answer (first (room_rows (length room) (2 * n))) (λ r. room) (with_entry (with_records es (with_absent x n room)) own 0 0)
