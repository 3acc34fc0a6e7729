-- What a file's header tells of its reading: where it is faulty, and where it is sound.
use mathlib.Core.Path.{◌≡◌, sym, ◌∙◌, ap}
use mathlib.Core.List.{List, ◌++◌}
use Rattle.std.specs.Prelude.{Result, Ok, Err}
use Prim.Native.Nat.{ℕ}
use native.Mathlib.Omega.{arith}
use Rattle.bits.specs.Bits.{bits_of}
use Rattle.refusal.specs.declared.Refusal.{Refusal}
use Rattle.refusal.specs.Rows
use Rattle.refusal.specs.Rows.{Row, first, answer}
use Rattle.refusal.specs.Told.{told}
use Rattle.table.specs.Told.{is_marked}
use Rattle.refusal.proofs.Rows.{before_all, after_none, answer_some}
use Rattle.table.specs.File.{one}
use Rattle.table.specs.declared.Header.{Header}
use Rattle.table.specs.Reader.{header_at, header_rows, records_in, zero_bit, end_of, body_rows, file_rows, refused, accepted, reading}
use Rattle.table.specs.declared.Ending.{Ending}
use Rattle.table_header.specs.HasHeader.{HasHeader}
use Rattle.table_records.specs.Parts.{Concludes, concluded}
use Rattle.refusal.proofs.Told.{some}

-- a refusal is one of the rows
is_refused : (r : Refusal) → (told r).number ≡ 0 → ⊥
is_refused r z = omega (arith, some r.reason, z)

-- a faulty header refuses the file
pub header_refuses : (s : List ℕ) (r : Refusal) → told r ≡ first (header_rows one (header_at one (bits_of s)) s)
    → reading one s ≡ refused (told r)
unfolding reading file_rows
header_refuses s r e =
    let rows : List Row = header_rows one (header_at one (bits_of s)) s in
    let all : first (rows ++ body_rows one (header_at one (bits_of s)) (bits_of s)) ≡ told r =
    before_all rows _ (λ z. is_refused r (ap (λ (q : Rows.Refusal). q.number) e ∙ z)) ∙ sym e in
    rw all (answer_some (told r) refused _ (is_refused r))

-- then the records tell, by how they end
reading_is : (s : List ℕ) (h : Header) → HasHeader s h → (r : Result Ending Refusal)
    → Concludes (first (body_rows one h (bits_of s))) (zero_bit (bits_of s) (end_of one h (bits_of s))) r
    → reading one s ≡ concluded h (records_in one h (bits_of s)) r
unfolding reading file_rows
reading_is s h d r k =
    rw (after_none (header_rows one (header_at one (bits_of s)) s) (body_rows one (header_at one (bits_of s)) (bits_of s)) d.sound, d.same)
    (go r k)
  where
    go : (r : Result Ending Refusal)
        → Concludes (first (body_rows one h (bits_of s))) (zero_bit (bits_of s) (end_of one h (bits_of s))) r
        → answer (first (body_rows one h (bits_of s))) refused
        (accepted h (records_in one h (bits_of s)) (zero_bit (bits_of s) (end_of one h (bits_of s))))
        ≡ concluded h (records_in one h (bits_of s)) r
    go (Ok ending) k = rw (k.0, ← k.1)
    go (Err q) k = rw (← k) (answer_some (told q) refused _ (is_refused q))

module _ (s : List ℕ) (h : Header) (d : HasHeader s h) where
  pub is_accepted : (ending : Ending)
      → Concludes (first (body_rows one h (bits_of s))) (zero_bit (bits_of s) (end_of one h (bits_of s))) (Ok ending)
      → reading one s ≡ accepted h (records_in one h (bits_of s)) (is_marked ending)
  is_accepted ending k = reading_is s h d (Ok ending) k

  pub records_refuse : (q : Refusal) → told q ≡ first (body_rows one h (bits_of s)) → reading one s ≡ refused (told q)
  records_refuse q k = reading_is s h d (Err q) k
