-- The decimal digits of a number: the last one after those of its tenth.
use mathlib.Core.Path.{◌≡◌, refl, ap, ◌∙◌}
use mathlib.Core.Bool.{Bool, true, false}
use mathlib.Core.List.{List, ◌++◌}
use Prim.Native.Nat.{ℕ, zero, suc, ◌/◌, ◌%◌, ◌^◌, ◌≤◌, ◌<◌}
use native.Mathlib.Omega.{arith}
use native.Mathlib.Nat.{pow-suc}
use lib.Dec.{ltb}
use lib.ListN.{length, length-append}
use borrow.Author.Tests.{lt-ltb, le-ltb, ltb-true, ltb-false}
use Rattle.house_words.specs.Decimal.{digit, digits, decimal}

-- x has no more than x digits in front of the last
enough : (k l x : ℕ) → x ≤ k → x ≤ l → digits k x ≡ digits l x
unfolding digits
enough zero zero x p q = refl
enough zero (suc l) x p q = rw (lt-ltb x 10 (omega arith)) (ap digit (omega arith))
enough (suc k) zero x p q = rw (lt-ltb x 10 (omega arith)) (ap digit (omega arith))
enough (suc k) (suc l) x p q = rw (enough k l (x / 10) (omega arith) (omega arith))

module _ (x : ℕ) where
  pub one_digit : x < 10 → decimal x ≡ digit x
  unfolding decimal
  one_digit h = enough x (suc x) x (omega arith) (omega arith) ∙ rw (lt-ltb x 10 h)

  pub more_digits : 10 ≤ x → decimal x ≡ decimal (x / 10) ++ digit (x % 10)
  unfolding decimal
  more_digits h =
      enough x (suc x) x (omega arith) (omega arith)
      ∙ rw (le-ltb x 10 h) (ap (λ (s : List ℕ). s ++ digit (x % 10)) (enough x (x / 10) (x / 10) (omega arith) (omega arith)))

-- below 10 to the k + 1 there are at most k + 1 digits
pub decimal_short : (k x : ℕ) → x < 10 ^ suc k → length (decimal x) ≤ suc k
decimal_short zero x h = omega (arith, ap length (one_digit x h))
decimal_short (suc k) x h = go (ltb x 10) refl (decimal_short k (x / 10) (omega (arith, pow-suc 10 (suc k))))
  where
    go : (b : Bool) → ltb x 10 ≡ b → length (decimal (x / 10)) ≤ suc k → length (decimal x) ≤ suc (suc k)
    go true e l = omega (arith, ap length (one_digit x (ltb-true x 10 e)))
    go false e l = omega (arith, ap length (more_digits x (ltb-false x 10 e)), length-append (decimal (x / 10)) (digit (x % 10)))

-- a larger number has no fewer digits
rises : (k x y : ℕ) → y ≤ k → x ≤ y → length (decimal x) ≤ length (decimal y)
rises zero x y h l =
    let same : x ≡ y = omega arith in
    omega (arith, ap (λ (n : ℕ). length (decimal n)) same)
rises (suc k) x y h l = go (ltb x 10) (ltb y 10) refl refl (rises k (x / 10) (y / 10) (omega arith) (omega arith))
  where
    go : (b c : Bool) → ltb x 10 ≡ b → ltb y 10 ≡ c → length (decimal (x / 10)) ≤ length (decimal (y / 10))
        → length (decimal x) ≤ length (decimal y)
    go true true e f r = omega (arith, ap length (one_digit x (ltb-true x 10 e)), ap length (one_digit y (ltb-true y 10 f)))
    go true false e f r =
        omega (
          arith,
          ap length (one_digit x (ltb-true x 10 e)),
          ap length (more_digits y (ltb-false y 10 f)),
          length-append (decimal (y / 10)) (digit (y % 10)),
        )
    go false true e f r = omega (arith, ltb-false x 10 e, ltb-true y 10 f)
    go false false e f r =
        omega (
          arith,
          r,
          ap length (more_digits x (ltb-false x 10 e)),
          ap length (more_digits y (ltb-false y 10 f)),
          length-append (decimal (x / 10)) (digit (x % 10)),
          length-append (decimal (y / 10)) (digit (y % 10)),
        )

pub decimal_rises : {x y : ℕ} → x ≤ y → length (decimal x) ≤ length (decimal y)
decimal_rises {x} {y} l = rises y x y (omega arith) l
