-- One turn of the reader; what every record taken keeps; and what a reading can be.
use mathlib.Core.Path.{◌≡◌, refl}
use mathlib.Core.List.{List, [], ◌∷◌}
use mathlib.Core.Bool.{Bool, true, false, cond, and-false}
use Prim.Native.Nat.{ℕ, zero, suc, ◌+◌, ◌≤◌, ◌<◌}
use native.Mathlib.Omega.{arith}
use lib.ListN.{length}
use lib.Dec.{leb, eqb}
use borrow.Author.Tests.{lt-leb, le-leb, leb-true, eq-eqb, ne_eqb, eqb-true, ltb-false}
use Rattle.bits.specs.Bits.{bits_of, field}
use Rattle.method.specs.Rules.{Filled}
use Rattle.refusal.specs.Rows.{Refusal}
use Rattle.refusal.specs.Rows.{Row, Clear, first, refused, answer_by}
use Rattle.refusal.proofs.Rows.{clear, number_clear, after_clear}
use Rattle.refusal.proofs.Tests.{both}
use Rattle.table.specs.File.{Form, header_size, record_size}
use Rattle.table.specs.declared.Header.{Header}
use Rattle.table.specs.Reader.{stands, passes, walk, records_in, record_at, record_rows}
use Rattle.table.specs.Reader.{records_rows, header_at, header_rows, zero_bit, end_of}
use Rattle.table.specs.Reader.{next_rows, body_rows, file_rows, Reading, accepted, reading}
use Rattle.table.specs.Passed.{Passed}
use Rattle.table.proofs.Passed.{goes_on, passed_clear}

module _ (f : Form) (h : Header) (t : ℕ) (seen : List Filled) (B : List ℕ) (p : ℕ) where
  -- no record stands, or it is refused
  pub walk_stop : passes f h seen B p ≡ false → walk f h t seen B p ≡ seen
  unfolding walk
  walk_stop e = go t
    where
      go : (t : ℕ) → walk f h t seen B p ≡ seen
      go zero = refl
      go (suc t) = rw e

  -- one is taken
  pub walk_on : stands f B p ≡ true → Clear (record_rows f h seen (record_at f seen B p))
      → walk f h (suc t) seen B p ≡ walk f h t (record_at f seen B p ∷ seen) B (p + record_size f)
  unfolding walk
  walk_on e c = rw (e, number_clear (record_rows f h seen (record_at f seen B p)) c)

pub stands_whole : (f : Form) (B : List ℕ) (p : ℕ) → field B p 1 ≡ 1 → p + record_size f ≤ length B → stands f B p ≡ true
stands_whole f B p z g = rw (eq-eqb (field B p 1) 1 z, le-leb (p + record_size f) (length B) g)

pub stands_zero : (f : Form) (B : List ℕ) (p : ℕ) → field B p 1 ≡ 0 → stands f B p ≡ false
stands_zero f B p z = rw (ne_eqb (field B p 1) 1 (omega arith))

pub stands_short : (f : Form) (B : List ℕ) (p : ℕ) → length B < p + record_size f → stands f B p ≡ false
stands_short f B p g = rw (lt-leb (p + record_size f) (length B) g) (and-false (eqb (field B p 1) 1))

pub stands_fits : (f : Form) (B : List ℕ) (p : ℕ) → stands f B p ≡ true → p + record_size f ≤ length B
stands_fits f B p e = leb-true (p + record_size f) (length B)
    (both (eqb (field B p 1) 1) (leb (p + record_size f) (length B)) e).1

-- what every record taken keeps, holds of all
module _ (f : Form) (h : Header) (B : List ℕ) (P : List Filled → ℕ → Type 0)
    (one_more_lem : (seen : List Filled) (p : ℕ) → P seen p → p + record_size f ≤ length B
    → Clear (record_rows f h seen (record_at f seen B p))
    → P (record_at f seen B p ∷ seen) (p + record_size f)) where
  pub walk_keeps : (t : ℕ) (seen : List Filled) (p : ℕ) → P seen p → (q : ℕ) × P (walk f h t seen B p) q
  unfolding walk
  walk_keeps zero seen p s = (p, s)
  walk_keeps (suc t) seen p s =
      go (passes f h seen B p) refl (λ l c. walk_keeps t (record_at f seen B p ∷ seen) (p + record_size f) (one_more_lem seen p s l c))
    where
      rows : List Row
      rows = record_rows f h seen (record_at f seen B p)

      next : List Filled
      next = walk f h t (record_at f seen B p ∷ seen) B (p + record_size f)

      go : (b : Bool) → passes f h seen B p ≡ b → (p + record_size f ≤ length B → Clear rows → (q : ℕ) × P next q)
          → (q : ℕ) × P (cond b next seen) q
      go true e again =
          let told = both (stands f B p) (eqb (refused rows) 0) e in
          again (stands_fits f B p told.0) (clear rows (eqb-true (refused rows) 0 told.1))
      go false e again = (p, s)

  pub taken_keeps : P [] (header_size f) → (q : ℕ) × P (records_in f h B) q
  unfolding records_in
  taken_keeps s = walk_keeps (length B) [] (header_size f) s

-- a record read from bits has nodes from 1 on, and its distance does not fall
pub record_passes : (f : Form) (h : Header) (seen : List Filled) (B : List ℕ) (p : ℕ) → Passed h seen
    → Clear (record_rows f h seen (record_at f seen B p))
    → Passed h (record_at f seen B p ∷ seen)
unfolding record_at
record_passes f h seen B p s w = (goes_on f h seen (record_at f seen B p) (omega arith) (omega arith) (omega arith) w, s)

pub taken_passed : (f : Form) (h : Header) (B : List ℕ) → Passed h (records_in f h B)
taken_passed f h B = (taken_keeps f h B (λ seen p. Passed h seen) (λ seen p s l c. record_passes f h seen B p s c) tt).1

-- so what stands after them tells
pub body_first : (f : Form) (h : Header) (B : List ℕ) → first (body_rows f h B) ≡ first (next_rows f h (records_in f h B) B (end_of f h B))
unfolding body_rows
body_first f h B = after_clear (records_rows f h (records_in f h B)) (next_rows f h (records_in f h B) B (end_of f h B))
    (passed_clear f h (records_in f h B) (taken_passed f h B))

-- a sound header has two bytes at least, and an own number of the house
pub header_sound : (f : Form) (h : Header) (s : List ℕ) → Clear (header_rows f h s) → (2 ≤ length s) × (h.own ≤ h.n)
unfolding header_rows
header_sound f h s c = (ltb-false (length s) 2 c.0, ltb-false h.n h.own c.1.1.0)

-- a reading is a refusal, or, where no row holds, the records taken, with the end mark or without it
pub by_reading : (f : Form) (s : List ℕ) (P : Reading → Type 0) → ((r : Refusal) → P (Reading.refused r))
    → ((m : Bool) → Clear (file_rows f s) → P (accepted (header_at f (bits_of s)) (records_in f (header_at f (bits_of s)) (bits_of s)) m))
    → P (reading f s)
unfolding reading
by_reading f s P fails holds = go (refused (file_rows f s)) refl
  where
    h : Header
    h = header_at f (bits_of s)

    mark : Bool
    mark = zero_bit (bits_of s) (end_of f h (bits_of s))

    go : (N : ℕ) → refused (file_rows f s) ≡ N
        → P (answer_by N (Reading.refused (first (file_rows f s))) (accepted h (records_in f h (bits_of s)) mark))
    go zero e = holds mark (clear (file_rows f s) e)
    go (suc N) e = fails (first (file_rows f s))
