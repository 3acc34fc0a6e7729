-- The test for a loop of zero arcs answers exactly whether there is one; and where there is none, each zero arc leads to a node of less
-- depth.
use mathlib.Core.Path.{◌≡◌, refl, sym, ap, subst, ◌∙◌}
use mathlib.Core.Logic.{◌⊎◌, inl, inr, ◌↔◌}
use mathlib.Core.Bool.{Bool, true, false, ◌&&◌, ◌||◌, true≢false, false≢true}
use mathlib.Core.List.{List, [], ◌∷◌}
use Prim.Native.Nat.{ℕ, zero, suc, ◌+◌, ◌≤◌, ◌<◌, zero-le}
use native.Mathlib.Omega.{arith}
use lib.Dec.{eqb}
use lib.ListN.{length}
use borrow.Author.Tests.{eqb-true, eqb-false, eq-eqb}
use Rattle.std.specs.Prelude.{if◌then◌else◌}
use Rattle.method.specs.Distinct.{Among, Distinct}
use Rattle.method.specs.Network.{Arc, Net, IsNode, IsArc, Valid}
use Rattle.method.specs.Loop.{Zeros, one, more, ZeroLoop, Loopless, zero_to, zeros_far, some_node, zero_loop, depth}
use Rattle.method.proofs.Numbers.{last_or_before, few}

-- an arc that the test has found, and back
zero_to_arc : (ar : List Arc) (i : ℕ) (f : ℕ → Bool) → zero_to ar i f ≡ true → (j : ℕ) × IsArc ar i j 0 × (f j ≡ true)
zero_to_arc [] i f e = absurd (false≢true e)
zero_to_arc (a ∷ ar) i f e = go (eqb a.tail i) refl (eqb a.len 0) refl (f a.head) refl e (λ w. zero_to_arc ar i f w)
  where
    go : (b : Bool) → eqb a.tail i ≡ b → (c : Bool) → eqb a.len 0 ≡ c → (d : Bool) → f a.head ≡ d
        → (b && (c && d)) || zero_to ar i f ≡ true
        → (zero_to ar i f ≡ true → (j : ℕ) × IsArc ar i j 0 × (f j ≡ true)) → (j : ℕ) × IsArc (a ∷ ar) i j 0 × (f j ≡ true)
    go true p true q true r w rec = (a.head, inl (eqb-true a.tail i p, refl, eqb-true a.len 0 q), r)
    go true p true q false r w rec = let x = rec w in (x.0, inr x.1, x.2)
    go true p false q d r w rec = let x = rec w in (x.0, inr x.1, x.2)
    go false p c q d r w rec = let x = rec w in (x.0, inr x.1, x.2)

or_true : (b : Bool) → b || true ≡ true
or_true true = refl
or_true false = refl

arc_zero_to : (ar : List Arc) (i j : ℕ) (f : ℕ → Bool) → IsArc ar i j 0 → f j ≡ true → zero_to ar i f ≡ true
arc_zero_to [] i j f x'' w = elim x'' [ ]
arc_zero_to (a ∷ ar) i j f (inl q) w =
    let h : f a.head ≡ true = ap f q.1 ∙ w in
    rw (eq-eqb a.tail i q.0, eq-eqb a.len 0 q.2, h)
arc_zero_to (a ∷ ar) i j f (inr m) w = rw (arc_zero_to ar i j f m w) (or_true (eqb a.tail i && (eqb a.len 0 && f a.head)))

some_node_lem : (f : ℕ → Bool) (k : ℕ) → some_node f k ≡ true → (i : ℕ) × IsNode k i × (f i ≡ true)
some_node_lem f zero e = absurd (false≢true e)
some_node_lem f (suc k) e = go (f (suc k)) refl e (λ w. some_node_lem f k w)
  where
    go : (b : Bool) → f (suc k) ≡ b → b || some_node f k ≡ true → (some_node f k ≡ true → (i : ℕ) × IsNode k i × (f i ≡ true))
        → (i : ℕ) × IsNode (suc k) i × (f i ≡ true)
    go true q w rec = (suc k, (omega arith, omega arith), q)
    go false q w rec = let x = rec w in (x.0, (x.1.0, omega (arith, x.1)), x.2)

node_some : (f : ℕ → Bool) (k i : ℕ) → IsNode k i → f i ≡ true → some_node f k ≡ true
node_some f zero i at w = absurd (omega arith)
node_some f (suc k) i at w = go (last_or_before k i at) (λ m. node_some f k i m w)
  where
    go : (i ≡ suc k) ⊎ IsNode k i → (IsNode k i → some_node f k ≡ true) → f (suc k) || some_node f k ≡ true
    go (inl e) rec = let h : f (suc k) ≡ true = ap f (sym e) ∙ w in rw h
    go (inr m) rec = rw (rec m) (or_true (f (suc k)))

-- one zero arc more at the end
zeros_on : (ar : List Arc) (i j k : ℕ) → Zeros ar i j → IsArc ar j k 0 → Zeros ar i k
zeros_on ar i j k (one a) b = more j a (one b)
zeros_on ar i j k (more h a z) b = more h a (zeros_on ar h j k z b)

zeros_node : (net : Net) → Valid net → (i k : ℕ) → Zeros net.arcs i k → IsNode net.n i
zeros_node net va i k (one a) = va.tails i k 0 a
zeros_node net va i k (more j a z) = va.tails i j 0 a

-- zero arcs lead from each node of the list to i
abbrev Trail : List Arc → List ℕ → ℕ → Type 0
Trail ar zs i = (z : ℕ) → Among z zs → Zeros ar z i

trail_on : (ar : List Arc) (i j : ℕ) (zs : List ℕ) → IsArc ar i j 0 → Trail ar zs i → Trail ar (i ∷ zs) j
trail_on ar i j zs a t z (inl q) = one (subst (λ (k : ℕ). IsArc ar k j 0) (sym q) a)
trail_on ar i j zs a t z (inr m) = zeros_on ar z i j (t z m) a

-- the number is in the list, or not
among? : (y : ℕ) (xs : List ℕ) → Among y xs ⊎ (Among y xs → ⊥)
among? y [] = inr (λ m. m)
among? y (x ∷ xs) = go (eqb y x) refl (among? y xs)
  where
    neither : eqb y x ≡ false → (Among y xs → ⊥) → Among y (x ∷ xs) → ⊥
    neither e n (inl q) = eqb-false y x e q
    neither e n (inr m) = n m

    go : (b : Bool) → eqb y x ≡ b → Among y xs ⊎ (Among y xs → ⊥) → Among y (x ∷ xs) ⊎ (Among y (x ∷ xs) → ⊥)
    go true e r = inl (inl (eqb-true y x e))
    go false e (inl m) = inl (inr m)
    go false e (inr n) = inr (neither e n)

module _ (net : Net) (va : Valid net) where
  -- who goes over n zero arcs comes back to a node passed before
  comes_back : (r i : ℕ) (zs : List ℕ) → IsNode net.n i → zeros_far net.arcs r i ≡ true → Distinct zs → Trail net.arcs zs i
      → r + length zs ≡ net.n → ZeroLoop net
  comes_back zero i zs at w d t e = go (among? i zs)
    where
      go : Among i zs ⊎ (Among i zs → ⊥) → ZeroLoop net
      go (inl m) = (i, t i m)
      go (inr n) = absurd (omega (arith, few net.n (i ∷ zs) (n, d) nodes))
        where
          nodes : (z : ℕ) → Among z (i ∷ zs) → IsNode net.n z
          nodes z (inl q) = subst (λ (k : ℕ). IsNode net.n k) (sym q) at
          nodes z (inr m) = zeros_node net va z i (t z m)
  comes_back (suc r) i zs at w d t e = go (among? i zs) (λ j ws at w d t e. comes_back r j ws at w d t e)
    where
      go : Among i zs ⊎ (Among i zs → ⊥)
          → ((j : ℕ) (ws : List ℕ) → IsNode net.n j → zeros_far net.arcs r j ≡ true → Distinct ws → Trail net.arcs ws j
          → r + length ws ≡ net.n → ZeroLoop net)
          → ZeroLoop net
      go (inl m) rec = (i, t i m)
      go (inr n) rec =
          let x = zero_to_arc net.arcs i (zeros_far net.arcs r) w in
          rec x.0 (i ∷ zs) (va.heads i x.0 0 x.1) x.2 (n, d) (trail_on net.arcs i x.0 zs x.1 t) (omega arith)

  -- on a loop one can go as far as one likes
  goes_on : (i : ℕ) → Zeros net.arcs i i → (r k : ℕ) → Zeros net.arcs k i → zeros_far net.arcs r k ≡ true
  goes_on i z zero k w = refl
  goes_on i z (suc r) k (one a) = arc_zero_to net.arcs k i (zeros_far net.arcs r) a (goes_on i z r i z)
  goes_on i z (suc r) k (more j a w) = arc_zero_to net.arcs k j (zeros_far net.arcs r) a (goes_on i z r j w)

  pub zero_exact : (zero_loop net ≡ true) ↔ ZeroLoop net
  zero_exact = (found, shown)
    where
      found : zero_loop net ≡ true → ZeroLoop net
      found e =
          let x = some_node_lem (zeros_far net.arcs net.n) net.n e in
          comes_back net.n x.0 [] x.1 x.2 tt (λ z m. absurd m) (omega arith)

      shown : ZeroLoop net → zero_loop net ≡ true
      shown x = node_some (zeros_far net.arcs net.n) net.n x.0 (zeros_node net va x.0 x.0 x.1)
          (goes_on x.0 x.1 net.n x.0 x.1)

  pub no_loop : zero_loop net ≡ false → Loopless net
  no_loop e i z = true≢false (sym (zero_exact.1 (i, z)) ∙ e)

-- as far as one can go from a zero arc's head, one farther one can go from its tail
deeper : (b c : Bool) (m k : ℕ) → (b ≡ true → c ≡ true) → m < k → (if b then suc m else m) < (if c then suc k else k)
deeper true true m k f lt = omega arith
deeper true false m k f lt = absurd (false≢true (f refl))
deeper false true m k f lt = omega arith
deeper false false m k f lt = lt

depth_on : (ar : List Arc) (i j : ℕ) → IsArc ar i j 0 → (k : ℕ) → depth ar k j < depth ar (suc k) i
depth_on ar i j a zero = subst (λ (b : Bool). 0 < (if b then 1 else 0)) (sym (arc_zero_to ar i j (zeros_far ar 0) a refl)) (omega arith)
depth_on ar i j a (suc k) =
    deeper (zeros_far ar (suc k) j) (zeros_far ar (suc (suc k)) i) (depth ar k j) (depth ar (suc k) i)
    (arc_zero_to ar i j (zeros_far ar (suc k)) a) (depth_on ar i j a k)

depth_few : (ar : List Arc) (k i : ℕ) → depth ar k i ≤ k
depth_few ar zero i = zero-le
depth_few ar (suc k) i = go (zeros_far ar (suc k) i) (depth_few ar k i)
  where
    go : (b : Bool) → depth ar k i ≤ k → (if b then suc (depth ar k i) else depth ar k i) ≤ suc k
    go true le = omega arith
    go false le = omega arith

module _ (net : Net) (va : Valid net) (loopless : Loopless net) where
  not_far : (i : ℕ) → IsNode net.n i → (b : Bool) → zeros_far net.arcs net.n i ≡ b → b ≡ false
  not_far i at true e = let x = (zero_exact net va).0 (node_some (zeros_far net.arcs net.n) net.n i at e) in
      absurd (loopless x.0 x.1)
  not_far i at false e = refl

  -- where no loop consists of zero arcs only, the n-th is never gone over
  depth_less : (n i : ℕ) → net.n ≡ suc n → IsNode net.n i → depth net.arcs net.n i ≡ depth net.arcs n i
  depth_less n i e at =
      ap (λ (k : ℕ). depth net.arcs k i) e
      ∙ ap (λ (b : Bool). if b then suc (depth net.arcs n i) else depth net.arcs n i)
      (ap (λ (k : ℕ). zeros_far net.arcs k i) (sym e) ∙ not_far i at (zeros_far net.arcs net.n i) refl)

  pub depth_falls : (i j : ℕ) → IsArc net.arcs i j 0 → depth net.arcs net.n j < depth net.arcs net.n i
  depth_falls i j a = go net.n refl (va.heads i j 0 a)
    where
      go : (n : ℕ) → net.n ≡ n → IsNode net.n j → depth net.arcs net.n j < depth net.arcs net.n i
      go zero e at = absurd (omega arith)
      go (suc n) e at =
          let all = ap (λ (k : ℕ). depth net.arcs k i) e in
          omega (arith, depth_less n j e at, depth_on net.arcs i j a n)

  pub depth_bound : (i : ℕ) → IsNode net.n i → depth net.arcs net.n i < net.n
  depth_bound i at = go net.n refl
    where
      go : (n : ℕ) → net.n ≡ n → depth net.arcs net.n i < net.n
      go zero e = absurd (omega arith)
      go (suc n) e = omega (arith, depth_less n i e at, depth_few net.arcs n i)
