-- What is read of a file, by its reading: where that is a refusal, and where it is accepted.
use mathlib.Core.Path.{◌≡◌, sym, ◌∙◌, ap}
use mathlib.Core.List.{List}
use mathlib.Core.Bool.{Bool}
use mathlib.Core.Option
use mathlib.Core.Option.{none}
use Prim.Native.Nat.{ℕ}
use Rattle.std.specs.Prelude.{Option, None, Result, Ok, Err}
use Rattle.bits.specs.Bits.{bits_of}
use Rattle.method.specs.Entries.{said, find}
use Rattle.method.specs.Rules
use Rattle.method.specs.declared.Filled.{Filled}
use Rattle.refusal.specs.Rows
use Rattle.refusal.specs.Rows.{first}
use Rattle.refusal.specs.declared.Refusal.{Refusal}
use Rattle.table.specs.File.{one}
use Rattle.table.specs.Reader.{Reading, refused, accepted, reading, refusal, records_in, phase_of, entry_from, entry_read}
use Rattle.table.specs.Reader.{zero_bit, end_rows}
use Rattle.table.specs.Told.{is_marked}
use Rattle.table.specs.declared.Ending.{Ending}
use Rattle.table.specs.declared.Header.{Header}
use Rattle.call.specs.Files.{entries_outcome, table_room}
use Rattle.table_header.specs.HasHeader.{HasHeader}
use Rattle.table_records.specs.Parts.{Concludes}
use Rattle.table_records.specs.Walk.{before, Steps}
use Rattle.table_records.specs.declared.Records.{Records}
use Rattle.table_records.proofs.SoundHeader.{is_accepted}
use Rattle.table_records.proofs.Steps.{ended, concludes}
use Rattle.table_reader.specs.Code.{found_of, answered}
use Rattle.table_reader.specs.Listing.{all_outcome, all_room}
use Rattle.table.proofs.Walk.{taken_passed}
use Rattle.table_reader.proofs.Listed.{all_outcome_lem, all_room_lem}

-- a refused file gives no entry
pub none_read : (s : List ℕ) (r : Rows.Refusal) (t : ℕ) → reading one s ≡ refused r → refusal r ≡ entry_read one s t
none_read s r t e = ap (λ (x : Reading). entry_from x t) (sym e)

-- an accepted one gives what its records tell
pub one_read : (s : List ℕ) (h : Header) (m : Bool) (t : ℕ) (o : Option.Option Rules.Filled)
    → reading one s ≡ accepted h (records_in one h (bits_of s)) m → o ≡ find t (records_in one h (bits_of s))
    → answered h m t o ≡ entry_read one s t
one_read s h m t o a q = rw (a, q)

-- where no further record stands, the records taken are all: they and how they end give the entry
pub read_out : (from to : Records) → (to.file.now ≡ from.file.now) × (to.header ≡ from.header) → (r : Result (Option Filled) Refusal)
    → Steps from.header (bits_of from.file.now) from.cursor to.cursor r → r ≡ Ok None → (t : ℕ) (found : Option Filled)
    → found_of found ≡ find t (before from.header (bits_of from.file.now) from.cursor.at) → (ending : Ending)
    → Concludes (first (end_rows (bits_of to.file.now) to.cursor.at)) (zero_bit (bits_of to.file.now) to.cursor.at) (Ok ending)
    → answered to.header (is_marked ending) t (found_of found) ≡ entry_read one from.file.now t
read_out from to same r steps q t found told ending says =
    let s = from.file.now in
    let h = from.header in
    let end = concludes h (bits_of s) from.cursor to.cursor r steps q from.walked (Ok ending) (rw same.0 at says) in
    let all = ended h (bits_of s) from.cursor to.cursor r steps q in
    rw same.1 (one_read s h (is_marked ending) t (found_of found) (is_accepted s h from.sound ending end) (told ∙ ap (find t) all.0))

-- a refused one leaves the room as it was
pub none_stored : (s : List ℕ) (r : Rows.Refusal) (room : List ℕ) → reading one s ≡ refused r
    → (◌≡◌ {A = Result ℕ Rows.Refusal} (Err r) (entries_outcome (reading one s) room)) × (room ≡ table_room (reading one s) room)
none_stored s r room e = (
  ap (λ (x : Reading). entries_outcome x room) (sym e),
  ap (λ (x : Reading). table_room x room) (sym e),
)

-- of an accepted one all is stored that the definition says
pub all_stored : (s : List ℕ) (h : Header) → HasHeader s h → (m : Bool) → reading one s ≡ accepted h (records_in one h (bits_of s)) m
    → (room left : List ℕ) (r : Result ℕ Rows.Refusal) → r ≡ all_outcome h.n room
    → left ≡ all_room h.own h.n (said (phase_of m) none) (records_in one h (bits_of s)) room
    → (r ≡ entries_outcome (reading one s) room) × (left ≡ table_room (reading one s) room)
all_stored s h d m a room left r eo er =
    let es = records_in one h (bits_of s) in
    let p = taken_passed one h (bits_of s) in
    rw a (eo ∙ all_outcome_lem h d.own es p m room, er ∙ all_room_lem h d.own es p m room)
