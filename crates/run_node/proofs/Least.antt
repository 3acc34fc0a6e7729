-- The least of a part's sums, looked for over the heads in rising order.
use mathlib.Core.Path.{◌≡◌, refl, sym, ap, ap₂, ◌∙◌}
use mathlib.Core.Logic.{◌⊎◌, inl, inr}
use mathlib.Core.Bool.{Bool, true, false, cond}
use Prim.Native.Nat.{ℕ, zero, suc, ◌+◌, ◌≤◌, ◌<◌}
use native.Mathlib.Omega.{arith}
use lib.Dec.{ltb, leb}
use borrow.Author.Tests.{lt-ltb, le-ltb, leb-true, leb-false}
use Rattle.method.specs.Rules.{Choice}
use Rattle.run_cells.specs.Part.{Part, sums_at, no_sum}
use Rattle.run_node.specs.Rules.{least}

-- it goes by the sums alone
pub least_same : (f f' : Part) (k : ℕ) → ((h : ℕ) → h ≤ k → f' (sums_at + h) ≡ f (sums_at + h)) → least f' k ≡ least f k
unfolding least
least_same f f' zero e = refl
least_same f f' (suc k) e = rw (e (suc k) (omega arith), least_same f f' k (λ h le. e h (omega arith)))

-- where there is a head, the sum is the one in its place
pub least_at : (f : Part) (k : ℕ) → 1 ≤ (least f k).head → (least f k).sum ≡ f (sums_at + (least f k).head)
unfolding least
least_at f zero pos = absurd (omega arith)
least_at f (suc k) pos = go (least_at f k) (ltb (f (sums_at + suc k)) (least f k).sum) pos
  where
    go : (1 ≤ (least f k).head → (least f k).sum ≡ f (sums_at + (least f k).head)) → (b : Bool)
        → 1 ≤ (cond b (record { sum = f (sums_at + suc k); head = suc k }) (least f k)).head
        → (cond b (record { sum = f (sums_at + suc k); head = suc k }) (least f k)).sum ≡ f
        (sums_at + (cond b (record { sum = f (sums_at + suc k); head = suc k }) (least f k)).head)
    go ih true l = refl
    go ih false l = ih l

-- no sum at all
pub least_none : (f : Part) (k : ℕ) → ((h : ℕ) → 1 ≤ h → h ≤ k → f (sums_at + h) ≡ no_sum) → (least f k).sum ≡ no_sum
unfolding least
least_none f zero e = refl
least_none f (suc k) e =
    let ih = least_none f k (λ h pos le. e h pos (omega arith)) in
    let q : ltb (f (sums_at + suc k)) (least f k).sum ≡ false =
    le-ltb (f (sums_at + suc k)) (least f k).sum (omega (arith, e (suc k) (omega arith) (omega arith), ih)) in
    ap (λ (b : Bool). (cond b (record { sum = f (sums_at + suc k); head = suc k }) (least f k)).sum) q ∙ ih

-- the one that goes before all others
module _ (f : Part) (p : Choice) (pos : 1 ≤ p.head) (is : f (sums_at + p.head) ≡ p.sum) (sum : p.sum < no_sum) where
  abbrev First : ℕ → Type 0
  First n = (h : ℕ) → 1 ≤ h → h ≤ n → (p.sum < f (sums_at + h)) ⊎ ((p.sum ≡ f (sums_at + h)) × (p.head ≤ h))

  above : (n : ℕ) → First n → (k : ℕ) → k < p.head → k ≤ n → p.sum < (least f k).sum
  unfolding least
  above n first zero lt le = sum
  above n first (suc k) lt le = go (above n first k (omega arith) (omega arith)) (ltb (f (sums_at + suc k)) (least f k).sum)
      (first (suc k) (omega arith) le)
    where
      go : p.sum < (least f k).sum → (b : Bool) → (p.sum < f (sums_at + suc k)) ⊎ ((p.sum ≡ f (sums_at + suc k)) × (p.head ≤ suc k))
          → p.sum < (cond b (record { sum = f (sums_at + suc k); head = suc k }) (least f k)).sum
      go ih true (inl a) = a
      go ih true (inr a) = absurd (omega (arith, a.1))
      go ih false w = ih

  pub least_is : (n : ℕ) → p.head ≤ n → First n → least f n ≡ p
  unfolding least
  least_is zero le first = absurd (omega arith)
  least_is (suc n) le first = go (λ l. least_is n l (λ h a b. first h a (omega arith))) (leb p.head n) refl
    where
      less : (h : ℕ) → 1 ≤ h → h ≤ n → (p.sum < f (sums_at + h)) ⊎ ((p.sum ≡ f (sums_at + h)) × (p.head ≤ h))
      less h a b = first h a (omega arith)

      stays : (p.sum < f (sums_at + suc n)) ⊎ ((p.sum ≡ f (sums_at + suc n)) × (p.head ≤ suc n)) → p.sum ≤ f (sums_at + suc n)
      stays (inl a) = omega arith
      stays (inr a) = omega (arith, a.0)

      go : (p.head ≤ n → least f n ≡ p) → (b : Bool) → leb p.head n ≡ b → least f (suc n) ≡ p
      go below true e =
          let ih = below (leb-true p.head n e) in
          let q : p.sum ≤ f (sums_at + suc n) = stays (first (suc n) (omega arith) (omega arith)) in
          ap (λ (c : Choice). cond (ltb (f (sums_at + suc n)) c.sum) (record { sum = f (sums_at + suc n); head = suc n }) c) ih
          ∙ ap (λ (b : Bool). cond b (record { sum = f (sums_at + suc n); head = suc n }) p) (le-ltb (f (sums_at + suc n)) p.sum q)
      go below false e =
          let h : p.head ≡ suc n = omega (arith, leb-false p.head n e) in
          let v : f (sums_at + suc n) ≡ p.sum = ap (λ (k : ℕ). f (sums_at + k)) (sym h) ∙ is in
          let lt : p.sum < (least f n).sum = above n less n (omega arith) (omega arith) in
          ap (λ (b : Bool). cond b (record { sum = f (sums_at + suc n); head = suc n }) (least f n))
          (lt-ltb (f (sums_at + suc n)) (least f n).sum (omega arith))
          ∙ ap₂ (λ (x k : ℕ). record { sum = x; head = k }) v (sym h)
