-- Handing over: one entry more in a row, one row more; the counts.
use mathlib.Core.Path.{◌≡◌, ◌∙◌}
use mathlib.Core.List.{List, [], ◌∷◌}
use Prim.Native.Nat.{ℕ, suc, ◌+◌, ◌*◌}
use native.Mathlib.Numerals.{add-one}
use native.Mathlib.Omega.{arith}
use lib.ListN.{length}
use lib.Seq.{sets}
use Rattle.method.specs.Entries.{Entry}
use Rattle.method.specs.Marks.{distance_of, hop_of}
use Rattle.method.specs.Marks.{entry_numbers, row_numbers}
use Rattle.method.proofs.EntryNumbers.{length_numbers, length_rows}
use Rattle.method.proofs.Room.{sets_append}

-- node i's entry for k + 1 comes to its row
pub row_next : (entry : ℕ → Entry) (at k p : ℕ) (e : Entry) (room now after : List ℕ) → now ≡ sets room at (entry_numbers entry k)
    → p ≡ at + 2 * k → e ≡ entry (k + 1) → after ≡ sets now p (distance_of e ∷ hop_of e ∷ [])
    → after ≡ sets room at (entry_numbers entry (k + 1))
row_next entry at k p e room now after row there ee is =
    let place : p ≡ at + length (entry_numbers entry k) = omega (arith, length_numbers entry k) in
    is ∙ rw (ee, place, row, add-one k)
    (sets_append room at (entry_numbers entry k) (distance_of (entry (suc k)) ∷ hop_of (entry (suc k)) ∷ []))

-- node i + 1's row comes to those before it
pub rows_next : (entry : ℕ → ℕ → Entry) (n i p : ℕ) (room now after : List ℕ) → now ≡ sets room 0 (row_numbers entry n i) → p ≡ 2 * (i * n)
    → after ≡ sets now p (entry_numbers (entry (i + 1)) n) → after ≡ sets room 0 (row_numbers entry n (i + 1))
rows_next entry n i p room now after rows there is =
    let place : p ≡ 0 + length (row_numbers entry n i) = omega (arith, length_rows entry n i) in
    is ∙ rw (place, rows, add-one i) (sets_append room 0 (row_numbers entry n i) (entry_numbers (entry (suc i)) n))
