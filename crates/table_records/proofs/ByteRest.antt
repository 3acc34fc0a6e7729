-- The bits from bit p to its byte's end, as one number: it tells the first of them, and those after it.
use mathlib.Core.Path.{◌≡◌, refl, ◌∙◌, ap}
use mathlib.Core.Logic.{◌≢◌}
use mathlib.Core.List.{List}
use Prim.Native.Nat.{ℕ, zero, suc, ◌+◌, ◌-◌, ◌*◌, ◌%◌, ◌^◌, ◌≤◌, ◌<◌}
use native.Mathlib.Omega.{arith}
use lib.ListN.{length}
use Rattle.bits.specs.Bits.{bits_of, field}
use Rattle.bits.proofs.Bytes.{length_bits, field_below}
use Rattle.bits.proofs.Field.{field_of_two}

module _ (s : List ℕ) (p x : ℕ) (inside : p < 8 * length s) (e : x ≡ field (bits_of s) p (8 - p % 8)) where
  abbrev B : List ℕ
  B = bits_of s

  abbrev m : ℕ
  m = 7 - p % 8

  first_and_rest : x ≡ field B p 1 * 2 ^ m + field B (p + 1) m
  first_and_rest =
      let w : 8 - p % 8 ≡ 1 + m = omega arith in
      e ∙ ap (field B p) w ∙ field_of_two B p 1 m (omega (arith, length_bits s))

  pub begins_with_1 : 2 ^ m ≤ x → field B p 1 ≢ 0
  begins_with_1 g z = omega (arith, rw z at first_and_rest, field_below s (p + 1) m)

  pub begins_with_0 : x < 2 ^ m → (field B p 1 ≡ 0) × (field B (p + 1) m ≡ x)
  begins_with_0 g = go (field B p 1) refl
    where
      go : (b : ℕ) → field B p 1 ≡ b → (field B p 1 ≡ 0) × (field B (p + 1) m ≡ x)
      go zero q = (q, omega (arith, rw q at first_and_rest))
      go (suc b) q = absurd (omega (arith, rw q at first_and_rest))
