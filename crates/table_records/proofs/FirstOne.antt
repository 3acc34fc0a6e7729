-- One bit of the search for a bit that is not 0.
use mathlib.Core.Path.{◌≡◌, refl}
use mathlib.Core.List.{List}
use Prim.Native.Nat.{ℕ, zero, suc, ◌+◌, ◌-◌, ◌≤◌, ◌<◌}
use native.Mathlib.Omega.{arith}
use borrow.Author.Tests.{eq-eqb, ne_eqb}
use Rattle.bits.specs.Bits.{field}
use Rattle.table.specs.Reader.{first_one}

pub found : (B : List ℕ) (k q : ℕ) → 0 < k → (field B q 1 ≡ 0 → ⊥) → first_one B k q ≡ q
unfolding first_one
found B zero q l n = absurd (omega arith)
found B (suc k) q l n = rw (ne_eqb (field B q 1) 0 n)

pub passed : (B : List ℕ) (k q : ℕ) → 0 < k → field B q 1 ≡ 0 → first_one B (k - 1) (q + 1) ≡ first_one B k q
unfolding first_one
passed B zero q l z = absurd (omega arith)
passed B (suc k) q l z = let e : suc k - 1 ≡ k = omega arith in rw (eq-eqb (field B q 1) 0 z, e)

pub none_left : (B : List ℕ) (k q : ℕ) → k ≤ 0 → first_one B k q ≡ q
unfolding first_one
none_left B zero q l = refl
none_left B (suc k) q l = absurd (omega arith)
