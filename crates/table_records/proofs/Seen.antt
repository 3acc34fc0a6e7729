-- The targets read so far as one number: target t has the bit of weight 2 ^ (t - 1).
use mathlib.Core.Path.{◌≡◌, refl, sym, ◌∙◌, ap}
use mathlib.Core.Logic.{◌≢◌}
use mathlib.Core.List.{List, [], ◌∷◌}
use mathlib.Core.Bool.{Bool, true, false, cond, ◌||◌}
use Prim.Native.Nat.{ℕ, zero, suc, ◌+◌, ◌-◌, ◌/◌, ◌%◌, ◌^◌, ◌≤◌, ◌<◌}
use native.Mathlib.Omega.{arith}
use native.Mathlib.Nat.{pow-suc, zero-div}
use lib.Dec.{eqb}
use lib.Pow.{shr-shr, pow_pos}
use borrow.Author.Tests.{eqb-true, eqb-false}
use Rattle.method.specs.Rules.{Filled, has}
use Rattle.table.specs.declared.Header.{Header}
use Rattle.table.specs.Passed.{Passed}
use Rattle.table_records.specs.Walk.{is_in, seen_of}

half_shr : (v d : ℕ) → v / 2 / 2 ^ d ≡ v / 2 ^ suc d
half_shr v d = shr-shr v 1 d ∙ ap (λ (k : ℕ). v / 2 ^ k) (omega arith)

-- a bit that was 0 is set, no other changes, and the number gets no longer

add_same : (i x : ℕ) → x / 2 ^ i % 2 ≡ 0 → (x + 2 ^ i) / 2 ^ i % 2 ≡ 1
add_same zero x z = omega arith
add_same (suc i) x z =
    let e : (x + 2 ^ suc i) / 2 ≡ x / 2 + 2 ^ i = omega (arith, pow-suc 2 i) in
    ap (λ (n : ℕ). n % 2) (sym (half_shr (x + 2 ^ suc i) i) ∙ ap (λ (n : ℕ). n / 2 ^ i) e)
    ∙ add_same i (x / 2) (ap (λ (n : ℕ). n % 2) (half_shr x i) ∙ z)

add_other : (i j x : ℕ) → i ≢ j → x / 2 ^ i % 2 ≡ 0 → (x + 2 ^ i) / 2 ^ j % 2 ≡ x / 2 ^ j % 2
add_other zero zero x d z = absurd (d refl)
add_other zero (suc j) x d z =
    let e : (x + 2 ^ 0) / 2 ≡ x / 2 = omega arith in
    ap (λ (n : ℕ). n % 2) (sym (half_shr (x + 2 ^ 0) j) ∙ ap (λ (n : ℕ). n / 2 ^ j) e ∙ half_shr x j)
add_other (suc i) zero x d z = omega (arith, pow-suc 2 i)
add_other (suc i) (suc j) x d z =
    let e : (x + 2 ^ suc i) / 2 ≡ x / 2 + 2 ^ i = omega (arith, pow-suc 2 i) in
    ap (λ (n : ℕ). n % 2) (sym (half_shr (x + 2 ^ suc i) j) ∙ ap (λ (n : ℕ). n / 2 ^ j) e)
    ∙ add_other i j (x / 2) (λ q. d (ap suc q)) (ap (λ (n : ℕ). n % 2) (half_shr x i) ∙ z)
    ∙ ap (λ (n : ℕ). n % 2) (half_shr x j)

add_below : (i m x : ℕ) → i < m → x < 2 ^ m → x / 2 ^ i % 2 ≡ 0 → x + 2 ^ i < 2 ^ m
add_below zero zero x g l z = absurd (omega arith)
add_below zero (suc m) x g l z = omega (arith, pow-suc 2 m)
add_below (suc i) zero x g l z = absurd (omega arith)
add_below (suc i) (suc m) x g l z =
    omega (
      arith,
      pow-suc 2 m,
      pow-suc 2 i,
      add_below i m (x / 2) (omega arith) (omega (arith, pow-suc 2 m))
          (ap (λ (n : ℕ). n % 2) (half_shr x i) ∙ z),
    )

-- each target's bit

abbrev bit_for : Bool → ℕ
bit_for b = cond b 1 0

seen_bit : (h : Header) (es : List Filled) → Passed h es → (t : ℕ) → 1 ≤ t → seen_of es / 2 ^ (t - 1) % 2 ≡ bit_for (has t es)
unfolding seen_of
seen_bit h [] p t g = rw (zero-div (2 ^ (t - 1)))
seen_bit h (e ∷ es) p t g =
    go (seen_bit h es p.1 e.target p.0.sound.target.0 ∙ ap bit_for p.0.sound.new) (seen_bit h es p.1 t g)
    (eqb t e.target) refl
  where
    go : seen_of es / 2 ^ (e.target - 1) % 2 ≡ 0 → seen_of es / 2 ^ (t - 1) % 2 ≡ bit_for (has t es)
        → (b : Bool) → eqb t e.target ≡ b → (seen_of es + 2 ^ (e.target - 1)) / 2 ^ (t - 1) % 2 ≡ bit_for (b || has t es)
    go clear ih true q =
        let s : t ≡ e.target = eqb-true t e.target q in
        rw s (add_same (e.target - 1) (seen_of es) clear)
    go clear ih false q =
        let n : t ≡ e.target → ⊥ = eqb-false t e.target q in
        add_other (e.target - 1) (t - 1) (seen_of es) (λ s. n (omega (arith, p.0.sound.target.0))) clear ∙ ih

pub seen_is : (h : Header) (es : List Filled) → Passed h es → (t : ℕ) → 1 ≤ t → is_in (seen_of es) t ≡ has t es
seen_is h es p t g = ap (λ (n : ℕ). eqb n 1) (seen_bit h es p t g) ∙ back (has t es)
  where
    back : (b : Bool) → eqb (bit_for b) 1 ≡ b
    back true = refl
    back false = refl

-- n bits are enough
pub seen_below : (h : Header) (es : List Filled) → Passed h es → seen_of es < 2 ^ h.n
unfolding seen_of
seen_below h [] p = pow_pos h.n
seen_below h (e ∷ es) p =
    add_below (e.target - 1) h.n (seen_of es) (omega (arith, p.0.sound.target)) (seen_below h es p.1)
    (seen_bit h es p.1 e.target p.0.sound.target.0 ∙ ap bit_for p.0.sound.new)
