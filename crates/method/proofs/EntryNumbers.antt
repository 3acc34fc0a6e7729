-- Entries as numbers: how many they are, and where each stands.
use mathlib.Core.Path.{◌≡◌, refl, sym, ap, subst, ◌∙◌}
use mathlib.Core.Logic.{◌⊎◌, inl, inr}
use mathlib.Core.List.{List, [], ◌∷◌, ◌++◌}
use Prim.Native.Nat.{ℕ, zero, suc, ◌+◌, ◌-◌, ◌*◌, ◌≤◌, ◌<◌}
use native.Mathlib.Nat.{mul-le-mul_right, mul_comm}
use native.Mathlib.Omega.{arith}
use lib.ListN.{length, length-append, get_or}
use Rattle.method.specs.Network.{IsNode}
use Rattle.method.specs.Entries.{Entry}
use Rattle.method.specs.Marks.{distance_of, hop_of, entry_numbers, row_numbers, place}
use Rattle.method.proofs.Numbers.{last_or_before}

-- two for each target, and a row for each node
pub length_numbers : (g : ℕ → Entry) (n : ℕ) → length (entry_numbers g n) ≡ 2 * n
length_numbers g zero = refl
length_numbers g (suc n) = rw (length-append (entry_numbers g n)) (omega (arith, length_numbers g n))

pub length_rows : (g : ℕ → ℕ → Entry) (n i : ℕ) → length (row_numbers g n i) ≡ 2 * (i * n)
length_rows g n zero = omega arith
length_rows g n (suc i) =
    rw (length-append (row_numbers g n i)) (omega (arith, length_rows g n i, length_numbers (g (suc i)) n))

-- an entry stands at place p: its distance, and then its first hop
abbrev pub StandsAt : List ℕ → ℕ → Entry → Type 0
StandsAt room p e = (get_or room p 0 ≡ distance_of e) × (get_or room (p + 1) 0 ≡ hop_of e)

-- what stands in a list stands in one that goes on, and after one that came before
get_d_on : (a b : List ℕ) (p : ℕ) → p < length a → get_or (a ++ b) p 0 ≡ get_or a p 0
get_d_on [] b p lt = absurd (omega arith)
get_d_on (x ∷ a) b zero lt = refl
get_d_on (x ∷ a) b (suc p) lt = get_d_on a b p (omega arith)

get_d_after : (a b : List ℕ) (p q : ℕ) → q ≡ length a + p → get_or (a ++ b) q 0 ≡ get_or b p 0
get_d_after [] b p q e = ap (λ (k : ℕ). get_or b k 0) (omega arith)
get_d_after (x ∷ a) b p zero e = absurd (omega arith)
get_d_after (x ∷ a) b p (suc q) e = get_d_after a b p q (omega arith)

pub stands_on : (a b : List ℕ) (p : ℕ) (e : Entry) → p + 1 < length a → StandsAt a p e → StandsAt (a ++ b) p e
stands_on a b p e lt s = (get_d_on a b p (omega arith) ∙ s.0, get_d_on a b (p + 1) lt ∙ s.1)

stands_after : (a b : List ℕ) (p q : ℕ) (e : Entry) → q ≡ length a + p → StandsAt b p e → StandsAt (a ++ b) q e
stands_after a b p q e is s = (get_d_after a b p q is ∙ s.0, get_d_after a b (p + 1) (q + 1) (omega arith) ∙ s.1)

-- a node's entry for y
pub numbers_stand : (g : ℕ → Entry) (n y : ℕ) → IsNode n y → StandsAt (entry_numbers g n) (2 * (y - 1)) (g y)
numbers_stand g zero y at = absurd (omega arith)
numbers_stand g (suc n) y at = go (last_or_before n y at) (λ there. numbers_stand g n y there)
  where
    pair : List ℕ
    pair = distance_of (g (suc n)) ∷ hop_of (g (suc n)) ∷ []

    go : (y ≡ suc n) ⊎ IsNode n y → (IsNode n y → StandsAt (entry_numbers g n) (2 * (y - 1)) (g y))
        → StandsAt (entry_numbers g (suc n)) (2 * (y - 1)) (g y)
    go (inl e) rec =
        subst (λ (z : ℕ). StandsAt (entry_numbers g n ++ pair) (2 * (z - 1)) (g z)) (sym e)
        (stands_after (entry_numbers g n) pair 0 (2 * (suc n - 1)) (g (suc n)) (omega (arith, length_numbers g n)) (refl, refl))
    go (inr there) rec = stands_on (entry_numbers g n) pair (2 * (y - 1)) (g y) (omega (arith, length_numbers g n)) (rec there)

-- where one row ends the next begins
pub row_place : (n i y : ℕ) → place n (suc i) y ≡ 2 * (i * n) + 2 * (y - 1)
row_place n i y =
    let z : suc i - 1 ≡ i = omega arith in
    let e : n * (suc i - 1) ≡ i * n = ap (λ (k : ℕ). n * k) z ∙ mul_comm n i in
    omega arith

-- and node i's entry stands before the rows of the nodes 1 to k end
pub place_within : (n k i y : ℕ) → IsNode k i → IsNode n y → place n i y + 1 < 2 * (k * n)
place_within n k zero y at to = absurd (omega arith)
place_within n k (suc j) y at to =
    let le : suc j * n ≤ k * n = mul-le-mul_right n (omega arith) in
    omega (arith, row_place n j y)

-- node i's entry for y among those of all nodes
pub rows_stand : (g : ℕ → ℕ → Entry) (n k i y : ℕ) → IsNode k i → IsNode n y → StandsAt (row_numbers g n k) (place n i y) (g i y)
rows_stand g n zero i y at to = absurd (omega arith)
rows_stand g n (suc k) i y at to = go (last_or_before k i at) (λ there. rows_stand g n k i y there to)
  where
    row : List ℕ
    row = entry_numbers (g (suc k)) n

    go : (i ≡ suc k) ⊎ IsNode k i → (IsNode k i → StandsAt (row_numbers g n k) (place n i y) (g i y))
        → StandsAt (row_numbers g n k ++ row) (place n i y) (g i y)
    go (inl e) rec =
        subst (λ (j : ℕ). StandsAt (row_numbers g n k ++ row) (place n j y) (g j y)) (sym e)
        (stands_after (row_numbers g n k) row (2 * (y - 1)) (place n (suc k) y) (g (suc k) y)
        (omega (arith, row_place n k y, length_rows g n k))
        (numbers_stand (g (suc k)) n y to))
    go (inr there) rec =
        stands_on (row_numbers g n k) row (place n i y) (g i y) (omega (arith, place_within n k i y there to, length_rows g n k))
        (rec there)
