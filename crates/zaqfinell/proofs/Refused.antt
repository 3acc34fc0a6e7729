-- What the reader of files refuses is the first row that holds.
use mathlib.Core.Path.{◌≡◌, refl, sym, ◌∙◌}
use mathlib.Core.Bool.{Bool}
use mathlib.Core.List.{List, ◌++◌}
use Prim.Native.Nat.{ℕ, zero, suc, ◌*◌}
use native.Mathlib.Omega.{arith}
use lib.ListN.{length}
use Rattle.bits.specs.Bits.{bits_of}
use Rattle.method.specs.Rules.{Filled}
use Rattle.method.proofs.EntryNumbers.{length_numbers}
use Rattle.refusal.specs.Rows.{Refusal}
use Rattle.refusal.specs.Rows.{Row, none, first, refused, room_rows, answer_by, answer, ask_rows}
use Rattle.refusal.proofs.Rows.{clear, clear_none, before_all, after_none}
use Rattle.table.specs.File.{one}
use Rattle.table.specs.declared.Header.{Header}
use Rattle.std.proofs.Common.{Ok, Err}
use Rattle.table.specs.Reader.{Reading, refusal, says, accepted, header_at, records_in, zero_bit, end_of, entry_in, file_rows, reading}
use Rattle.table.specs.Reader.{entry_from, entry_read, read_rows}
use Rattle.call.specs.Files.{read_refusal, outcome_refusal, entries_outcome}

-- an answer is refused with what it was made by
by_answer : {A : Type 0} (of : A → Refusal) (refuse : Refusal → A) (x : A) → ((r : Refusal) → of (refuse r) ≡ r) → of x ≡ none
    → (rows : List Row) → of (answer (first rows) refuse x) ≡ first rows
by_answer of refuse x e z rows = go (refused rows) refl
  where
    go : (N : ℕ) → refused rows ≡ N → of (answer_by N (refuse (first rows)) x) ≡ first rows
    go zero q = z ∙ sym (clear_none rows (clear rows q))
    go (suc N) q = e (first rows)

-- what is asked of an accepted file is refused by the rows after the file's
by_file : {A : Type 0} (of : A → Refusal) (said : Reading → A) (s : List ℕ) (more : List Row)
    → ((r : Refusal) → of (said (Reading.refused r)) ≡ r)
    → ((es : List Filled) (m : Bool) → of (said (accepted (header_at one (bits_of s)) es m)) ≡ first more)
    → of (said (reading one s)) ≡ first (file_rows one s ++ more)
unfolding reading
by_file of said s more e z =
    go (refused (file_rows one s)) refl (records_in one (header_at one (bits_of s)) (bits_of s))
    (zero_bit (bits_of s) (end_of one (header_at one (bits_of s)) (bits_of s)))
  where
    go : (N : ℕ) → refused (file_rows one s) ≡ N → (es : List Filled) (m : Bool)
        → of (said (answer_by N (Reading.refused (first (file_rows one s))) (accepted (header_at one (bits_of s)) es m)))
        ≡ first (file_rows one s ++ more)
    go zero q es m = z es m ∙ sym (after_none (file_rows one s) more q)
    go (suc N) q es m = e (first (file_rows one s)) ∙ sym (before_all (file_rows one s) more (λ z. omega arith))

pub read_refused : (s : List ℕ) (y : ℕ) → read_refusal (entry_read one s y) ≡ first (read_rows one s y)
read_refused s y =
    let target = ask_rows (header_at one (bits_of s)).n y in
    by_file read_refusal (λ x. entry_from x y) s target (λ r. refl)
    (λ es m. by_answer read_refusal refusal (says (entry_in (header_at one (bits_of s)) es m y)) (λ r. refl) refl target)

pub table_refused : (s room : List ℕ)
    → outcome_refusal (entries_outcome (reading one s) room) ≡ first
    (file_rows one s ++ room_rows (length room) (2 * (header_at one (bits_of s)).n))
table_refused s room =
    let h : Header = header_at one (bits_of s) in
    let short = room_rows (length room) (2 * h.n) in
    by_file outcome_refusal (λ x. entries_outcome x room) s short (λ r. refl)
    (λ es m. rw (length_numbers (entry_in h es m) h.n) (by_answer outcome_refusal Err (Ok (2 * h.n)) (λ r. refl) refl short))
