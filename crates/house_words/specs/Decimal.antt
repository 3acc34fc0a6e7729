-- A number as text: its decimal digits.
use Rattle.std.specs.Prelude.{List, [], ◌∷◌, ◌++◌, ℕ, zero, suc, ◌+◌, ◌/◌, ◌%◌, ltb, if◌then◌else◌}

-- the byte of a digit: `0` is 48
abbrev pub digit : ℕ → List ℕ
digit d = (48 + d) ∷ []

-- the digits of x: its last digit, and in front of it those of its tenth, at most k of them
unfoldable pub digits : ℕ → ℕ → List ℕ
digits zero x = digit (x % 10)
digits (suc k) x = if ltb x 10 then digit x else (digits k (x / 10) ++ digit (x % 10))

-- all digits of x, with no zero in front, and `0` for 0: it has no more than x digits in front of the last
unfoldable pub decimal : ℕ → List ℕ
unfolding digits
decimal x = digits x x
