-- The least of a part's sums, looked for in two halves.
use mathlib.Core.Path.{◌≡◌, refl, sym, ap, ap₂, ◌∙◌}
use mathlib.Core.Bool.{Bool, true, false, cond}
use Prim.Native.Nat.{ℕ, zero, suc, ◌+◌, ◌≤◌}
use native.Mathlib.Omega.{arith}
use native.Mathlib.Nat.{le_refl}
use native.Mathlib.Numerals.{add-one}
use lib.Dec.{ltb}
use borrow.Author.Tests.{ltb-true, ltb-false, lt-ltb, le-ltb}
use Rattle.method.specs.Rules.{Choice}
use Rattle.run_cells.specs.Part.{Part, sums_at, no_sum}
use Rattle.run_node.specs.declared.Chosen.{Chosen}
use Rattle.run_node.specs.Rules.{least}

-- the lesser sum of two, of equals the first
abbrev pub lesser_of : Choice → Choice → Choice
lesser_of a b = cond (ltb b.sum a.sum) b a

lesser_assoc : (a b c : Choice) → lesser_of (lesser_of a b) c ≡ lesser_of a (lesser_of b c)
lesser_assoc a b c = go (ltb b.sum a.sum) refl (ltb c.sum b.sum) refl
  where
    go : (t : Bool) → ltb b.sum a.sum ≡ t → (u : Bool) → ltb c.sum b.sum ≡ u → lesser_of (cond t b a) c ≡ lesser_of a (cond u c b)
    go true et true eu = rw (eu, lt-ltb c.sum a.sum (omega (arith, ltb-true b.sum a.sum et, ltb-true c.sum b.sum eu)))
    go true et false eu = rw (eu, et)
    go false et true eu = refl
    go false et false eu = rw (et, le-ltb c.sum a.sum (omega (arith, ltb-false b.sum a.sum et, ltb-false c.sum b.sum eu)))

-- the arc to a head
abbrev pub arc_to : Part → ℕ → Choice
arc_to f h = record { sum = f (sums_at + h); head = h }

-- the least of the k heads after b
unfoldable pub after : Part → ℕ → ℕ → Choice
after f b zero = record { sum = no_sum; head = 0 }
after f b (suc k) = lesser_of (after f b k) (arc_to f (suc (b + k)))

pub least_suc : (f : Part) (k : ℕ) → least f (k + 1) ≡ lesser_of (least f k) (arc_to f (k + 1))
unfolding least
least_suc f k = ap (least f) (add-one k) ∙ ap (λ (h : ℕ). lesser_of (least f k) (arc_to f h)) (sym (add-one k))

pub after_suc : (f : Part) (b k : ℕ) → after f b (k + 1) ≡ lesser_of (after f b k) (arc_to f (b + (k + 1)))
unfolding after
after_suc f b k =
    let e : suc (b + k) ≡ b + (k + 1) = omega arith in
    ap (after f b) (add-one k) ∙ ap (λ (h : ℕ). lesser_of (after f b k) (arc_to f h)) e

-- the least sum is at most that of no arc
pub none_least : (f : Part) (k : ℕ) → (least f k).sum ≤ no_sum
unfolding least
none_least f zero = le_refl no_sum
none_least f (suc k) = go (none_least f k) (ltb (f (sums_at + suc k)) (least f k).sum) refl
  where
    go : (least f k).sum ≤ no_sum → (b : Bool) → ltb (f (sums_at + suc k)) (least f k).sum ≡ b
        → (cond b (arc_to f (suc k)) (least f k)).sum ≤ no_sum
    go ih true e = omega (arith, ltb-true (f (sums_at + suc k)) (least f k).sum e)
    go ih false e = ih

-- and its head is one of those looked at, or 0
pub least_head : (f : Part) (k : ℕ) → (least f k).head ≤ k
unfolding least
least_head f zero = le_refl 0
least_head f (suc k) = go (least_head f k) (ltb (f (sums_at + suc k)) (least f k).sum)
  where
    go : (least f k).head ≤ k → (b : Bool) → (cond b (arc_to f (suc k)) (least f k)).head ≤ suc k
    go ih true = le_refl (suc k)
    go ih false = omega (arith, ih)

-- the lesser of both halves
pub halves : (f : Part) (b k : ℕ) → least f (b + k) ≡ lesser_of (least f b) (after f b k)
unfolding least after
halves f b zero =
    let e : b + 0 ≡ b = omega arith in
    ap (least f) e ∙ sym (ap (λ (t : Bool). cond t (record { sum = no_sum; head = 0 }) (least f b))
    (le-ltb no_sum (least f b).sum (none_least f b)))
halves f b (suc k) =
    let e : b + suc k ≡ suc (b + k) = omega arith in
    ap (least f) e ∙ ap (λ (c : Choice). lesser_of c (arc_to f (suc (b + k)))) (halves f b k)
    ∙ lesser_assoc (least f b) (after f b k) (arc_to f (suc (b + k)))

-- the code's `lesser`, where c stands for a and d for b
abbrev pub picked : Chosen → Choice
picked c = record { sum = c.sum; head = c.head }

pub lesser_is : (a b : Choice) (c d : Chosen) → picked c ≡ a → picked d ≡ b → picked (cond (ltb d.sum c.sum) d c) ≡ lesser_of a b
lesser_is a b c d ec ed = go (ltb d.sum c.sum) ∙ ap₂ lesser_of ec ed
  where
    go : (t : Bool) → picked (cond t d c) ≡ cond t (picked d) (picked c)
    go true = refl
    go false = refl
