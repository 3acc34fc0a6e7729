-- A field read by the three bytes that it touches; bytes after the end count as 0.
use mathlib.Core.Path.{◌≡◌, refl, sym, ◌∙◌, ap}
use mathlib.Core.List.{List, [], ◌∷◌, ◌++◌, append_assoc, append-nil}
use Prim.Native.Nat.{ℕ, zero, suc, ◌+◌, ◌*◌, ◌/◌, ◌%◌, ◌^◌, ◌≤◌, ◌<◌}
use native.Mathlib.Omega.{arith}
use lib.ListN.{length, get_or, take, drop, replicate, length-append}
use lib.Seq.{sets, sets-eq, set-get_or, length-take-le}
use lib.Pow.{shr-shr}
use Rattle.bits.specs.Bits.{as_bits, bits_of, field, Bytes}
use Rattle.bits.specs.Window.{window_at}
use Rattle.bits.proofs.AsBits.{as_bits_split, as_bits_mod}
use Rattle.bits.proofs.Field.{field_front, field_after, field_of_number}
use Rattle.bits.proofs.Bytes.{length_bits, bits_append}

-- a window's three bytes
abbrev three_bytes : ℕ → List ℕ
three_bytes y = y / 65536 ∷ y / 256 % 256 ∷ y % 256 ∷ []

-- their bits
bits_three : (y : ℕ) → bits_of (three_bytes y) ≡ as_bits 24 y
unfolding bits_of
bits_three y =
    rw (append-nil, as_bits_mod 8 (y / 256), as_bits_mod 8 y, as_bits_split 16 8 y, as_bits_split 8 8 (y / 256), shr-shr y 8 8)
    (simp append_assoc)

-- the bits around them
bits_around : (s : List ℕ) (k y : ℕ) → k + 3 ≤ length s
    → bits_of (sets s k (three_bytes y)) ≡ bits_of (take k s) ++ (as_bits 24 y ++ bits_of (drop (k + 3) s))
bits_around s k y h =
    ap bits_of (sets-eq (three_bytes y) s k h)
    ∙ rw (bits_append (take k s ++ three_bytes y) (drop (k + 3) s), bits_append (take k s) (three_bytes y), bits_three y, append_assoc)

-- to write the bytes that stand there changes nothing
window_same : (s : List ℕ) (k : ℕ) → Bytes s → sets s k (three_bytes (window_at s k)) ≡ s
window_same s k by =
    let b : get_or s (k + 1) 0 < 256 = by.each (k + 1) in
    let c : get_or s (k + 2) 0 < 256 = by.each (k + 2) in
    let x : ℕ = window_at s k in
    let e1 : x / 65536 ≡ get_or s k 0 = omega arith in
    let e2 : x / 256 % 256 ≡ get_or s (k + 1) 0 = omega arith in
    let e3 : x % 256 ≡ get_or s (k + 2) 0 = omega arith in
    let k1 : k + 1 ≡ suc k = omega arith in
    let k2 : k + 2 ≡ suc (suc k) = omega arith in
    rw (e1, e2, e3, k1, k2) (simp set-get_or)

-- zeros after the end, so that three bytes stand from every byte on

zeros_after : (n : ℕ) (s : List ℕ) (k : ℕ) → get_or (s ++ replicate n 0) k 0 ≡ get_or s k 0
zeros_after zero [] k = refl
zeros_after (suc n) [] zero = refl
zeros_after (suc n) [] (suc k) = zeros_after n [] k
zeros_after n (b ∷ s) zero = refl
zeros_after n (b ∷ s) (suc k) = zeros_after n s k

module _ (s : List ℕ) (k o w r : ℕ) (by : Bytes s) (fits : 8 * k + o + w ≤ 8 * length s) (whole : o + w + r ≡ 24) where
  abbrev longer : List ℕ
  longer = s ++ replicate 3 0

  abbrev ahead : List ℕ
  ahead = bits_of (take k longer)

  abbrev rest : List ℕ
  rest = bits_of (drop (k + 3) longer)

  three_stand : k + 3 ≤ length longer
  three_stand = simp length-append (omega arith)

  length_ahead : length ahead ≡ 8 * k
  length_ahead = omega (arith, length_bits (take k longer), length-take-le k longer (omega (arith, three_stand)))

  same_window : window_at longer k ≡ window_at s k
  same_window = simp zeros_after

  bits_longer : bits_of s ++ bits_of (replicate 3 0) ≡ ahead ++ (as_bits 24 (window_at s k) ++ rest)
  bits_longer =
      sym (bits_append s (replicate 3 0))
      ∙ ap bits_of (sym (window_same longer k (record { each = λ i. rw zeros_after (by.each i) })))
      ∙ bits_around longer k (window_at longer k) three_stand
      ∙ ap (λ (x : ℕ). ahead ++ (as_bits 24 x ++ rest)) same_window

  -- the field is read from the window
  pub field_in_window : field (bits_of s) (8 * k + o) w ≡ window_at s k / 2 ^ r % 2 ^ w
  field_in_window =
      let x : ℕ = window_at s k in
      sym (field_front (bits_of s) (bits_of (replicate 3 0)) (8 * k + o) w (omega (arith, length_bits s)))
      ∙ ap (λ (B : List ℕ). field B (8 * k + o) w) bits_longer
      ∙ field_after ahead (as_bits 24 x ++ rest) (8 * k) o w length_ahead
      ∙ ap (λ (n : ℕ). field (as_bits n x ++ rest) o w) (sym whole)
      ∙ field_of_number o w r x rest

-- a field that lies in one byte
pub field_in_byte : (s : List ℕ) (k o w r : ℕ) → Bytes s → k < length s → o + w + r ≡ 8
    → field (bits_of s) (8 * k + o) w ≡ get_or s k 0 / 2 ^ r % 2 ^ w
field_in_byte s k o w r by h whole =
    let x : ℕ = window_at s k in
    let b : get_or s (k + 1) 0 < 256 = by.each (k + 1) in
    let c : get_or s (k + 2) 0 < 256 = by.each (k + 2) in
    let e : x / 65536 ≡ get_or s k 0 = omega arith in
    field_in_window s k o w (16 + r) by (omega arith) (omega arith)
    ∙ ap (λ (n : ℕ). n % 2 ^ w) (sym (shr-shr x 16 r) ∙ ap (λ (n : ℕ). n / 2 ^ r) e)

-- a field that lies in two bytes
pub field_in_two : (s : List ℕ) (k o w r : ℕ) → Bytes s → k + 1 < length s → o + w + r ≡ 16
    → field (bits_of s) (8 * k + o) w ≡ (get_or s k 0 * 256 + get_or s (k + 1) 0) / 2 ^ r % 2 ^ w
field_in_two s k o w r by h whole =
    let x : ℕ = window_at s k in
    let c : get_or s (k + 2) 0 < 256 = by.each (k + 2) in
    let e : x / 256 ≡ get_or s k 0 * 256 + get_or s (k + 1) 0 = omega arith in
    field_in_window s k o w (8 + r) by (omega arith) (omega arith)
    ∙ ap (λ (n : ℕ). n % 2 ^ w) (sym (shr-shr x 8 r) ∙ ap (λ (n : ℕ). n / 2 ^ r) e)
