-- What ends a file: fewer bits than a record has, from a 1 on, or the end mark.
use mathlib.Core.Path.{◌≡◌, refl, sym, ◌∙◌, ap, ap₂}
use mathlib.Core.Logic.{◌⊎◌, inl, inr}
use mathlib.Core.List.{List, [], ◌∷◌, ◌++◌, append_assoc, append-nil}
use mathlib.Core.Bool.{Bool, true, false, and-false}
use Prim.Native.Nat.{ℕ, zero, suc, ◌+◌, ◌-◌, ◌*◌, ◌%◌, ◌≤◌, ◌<◌}
use native.Mathlib.Omega.{arith}
use lib.ListN.{length, take, replicate, length-append, length-replicate}
use lib.Pow.{pow_pos}
use lib.Seq.{length-take-le}
use borrow.Author.Tests.{lt-ltb, le-ltb, eq-eqb}
use Rattle.bits.specs.Bits.{as_bits, field}
use Rattle.bits.proofs.AsBits.{as_bits_zeros}
use Rattle.bits.proofs.Field.{field_cut, field_at_whole}
use Rattle.method.specs.Rules.{Filled}
use Rattle.refusal.specs.Rows.{Clear}
use Rattle.table.specs.File.{Form, record_bits, to_edge, end_bits, record_size}
use Rattle.table.specs.Reader.{zero_bit, end_rows}
use Rattle.table.specs.Size.{bytes_for}
use Rattle.table.proofs.Sizes.{length_record}

-- bits that begin with a 1, or none
abbrev pub Ones : List ℕ → Type 0
Ones X = (X ≡ []) ⊎ ((0 < length X) × (field X 0 1 ≡ 1))

ones_only : (k b : ℕ) → b ≡ 1 → Ones (replicate k b)
unfolding as_bits
ones_only zero b e = inl refl
ones_only (suc k) b e = inr (omega arith, rw e (field_at_whole [] (replicate k 1) 0 1 1 refl (omega arith)))

-- so does what ends an unfinished file
pub end_ones : (p : ℕ) → Ones (end_bits false p)
end_ones p = ones_only (to_edge p) _ refl

pub end_short : (p : ℕ) → length (end_bits false p) < 8
end_short p = simp length-replicate (omega arith)

-- a part of a record begins with a 1
pub part_ones : (f : Form) (before : ℕ) (e : Filled) (T : List ℕ) (n : ℕ) → n < record_size f → Ones (take n (record_bits f before e ++ T))
unfolding record_bits
part_ones f before e T zero g = inl refl
part_ones f before e T (suc n) g =
    let L : List ℕ = record_bits f before e ++ T in
    let l : length L ≡ record_size f + length T = length-append (record_bits f before e) T
    ∙ ap (λ (k : ℕ). k + length T) (length_record f before e) in
    let R : List ℕ = as_bits f.node (e.target - 1) ++ as_bits f.node (e.hop - 1) ++ as_bits f.len (e.distance - before) ++ T in
    let s : L ≡ [] ++ (as_bits 1 1 ++ R) = simp append_assoc in
    inr (
      omega (arith, length-take-le (suc n) L (omega arith)),
      field_cut L (suc n) 0 1 (omega arith) (omega arith) ∙ ap (λ (b : List ℕ). field b 0 1) s
          ∙ field_at_whole [] _ 0 1 1 refl (omega arith),
    )

-- without the 0 bit nothing is refused
pub unmarked : (B : List ℕ) (p : ℕ) → zero_bit B p ≡ false → Clear (end_rows B p)
unfolding end_rows
unmarked B p z = (rw z, (rw z, tt))

-- the 0 bit and zeros to the byte's end are the end mark
pub end_marked : (A : List ℕ) (p : ℕ) → length A ≡ p
    → (field (A ++ end_bits true p) p 1 ≡ 0) × (zero_bit (A ++ end_bits true p) p ≡ true) × Clear (end_rows (A ++ end_bits true p) p)
unfolding as_bits end_rows
end_marked A p l =
    let k : ℕ = to_edge (p + 1) in
    let B : List ℕ = A ++ end_bits true p in
    let w : k ≡ 7 - p % 8 = omega arith in
    let e : B ≡ (A ++ as_bits 1 0) ++ (as_bits k 0 ++ []) =
    rw (append-nil (as_bits k 0), as_bits_zeros k) (sym (append_assoc A (0 ∷ []) (replicate k 0))) in
    let z : field B (p + 1) (7 - p % 8) ≡ 0 =
    ap₂ (λ (b : List ℕ) (n : ℕ). field b (p + 1) n) e (sym w) ∙ field_at_whole (A ++ as_bits 1 0) [] (p + 1) k 0 (simp (length-append, l))
    (pow_pos k) in
    let m : length B ≡ p + suc k = simp (length-append, length-replicate, l) in
    let o : field B p 1 ≡ 0 = field_at_whole A (replicate k 0) p 1 0 l (omega arith) in (
      o,
      rw (lt-ltb p (length B) (omega arith), eq-eqb (field B p 1) 0 o),
      (
        rw (eq-eqb (field B (p + 1) (7 - p % 8)) 0 z) (and-false (zero_bit B p)),
        (rw (le-ltb (p + (8 - p % 8)) (length B) (omega arith)) (and-false (zero_bit B p)), tt),
      ),
    )

-- a file that lacks bytes lacks a record, or its end with all bits of that byte
pub cut_before_end : (mark : Bool) (p c : ℕ) → c < bytes_for mark p → 8 * c ≤ p
cut_before_end true p c g = omega arith
cut_before_end false p c g = omega arith
