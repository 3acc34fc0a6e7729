-- The way along first hops: one hop and the way from there. It goes over arcs, ends at the target, and passes no node twice.
use mathlib.Core.Path.{◌≡◌, refl, sym, ap, subst, ◌∙◌}
use mathlib.Core.Logic.{inl, inr, ◌≢◌}
use mathlib.Core.Bool.{Bool, true, false, cond}
use mathlib.Core.List.{List, [], ◌∷◌}
use Prim.Native.Nat.{ℕ, zero, suc, ◌+◌, ◌-◌, ◌≤◌, ◌<◌}
use native.Mathlib.Nat.{le_of_eq}
use native.Mathlib.Omega.{arith}
use lib.Dec.{eqb}
use lib.ListN.{length}
use borrow.Author.Tests.{eqb-true, eqb-false, eq-eqb, ne_eqb}
use Rattle.method.specs.Network.{Net, IsNode, IsArc, Accepted}
use Rattle.method.specs.Distance.{here}
use Rattle.method.specs.Steps.{State, Step, run}
use Rattle.method.specs.Entries.{known, entry_of, entry}
use Rattle.method.specs.Marks.{distance_of, hop_of}
use Rattle.method.specs.Distinct.{Among, Distinct}
use Rattle.method.proofs.Numbers.{few}
use Rattle.method.proofs.Hops.{onto}
use Rattle.method.proofs.Proved.{laws as method-laws}
use Rattle.method.specs.Route.{distance_to, hop_to, hops, route}
use Rattle.method.specs.RouteLaws.{Over, last_of}

module _ (net : Net) (acc : Accepted net) (bs : List Step) (st : State) (is : st ≡ run net bs) (y : ℕ) where
  -- node i's entry for y is filled
  pub record On (i : ℕ) : Type 0 where
    pub node : IsNode net.n i
    pub distance : ℕ
    pub hop : ℕ
    pub filled : entry_of (st i).node y ≡ known distance hop

  abbrev next : ℕ → ℕ
  next i = hop_to st y i

  entry_is : (i : ℕ) → entry_of (st i).node y ≡ entry net bs i y
  entry_is i = ap (λ (s : State). entry_of (s i).node y) is

  pub distance_is : (i : ℕ) (w : On i) → distance_to st y i ≡ w.distance
  distance_is i w = ap distance_of w.filled

  -- at the target it is 0
  home : (i : ℕ) (w : On i) → i ≡ y → w.distance ≡ 0
  home i w e =
      let r = (method-laws net).a_filled_is_right acc.valid bs i y w.distance w.hop (sym (entry_is i) ∙ w.filled) in
      omega (arith, r.distance.least 0 (here e refl))

  -- one hop: over an arc, and nearer by its length
  one_hop : (i : ℕ) (w : On i) → i ≢ y → (v : On (next i)) × (l : ℕ) × IsArc net.arcs i (next i) l × (w.distance ≡ l + v.distance)
  one_hop i w ne =
      let o = onto net acc.valid bs y i w.distance w.hop (sym (entry_is i) ∙ w.filled) (λ q. ne (sym q)) in
      let h : w.hop ≡ next i = sym (ap hop_of w.filled) in (
        record {
          node = subst (λ (k : ℕ). IsNode net.n k) h (acc.valid.heads i w.hop o.len o.arc);
          distance = o.rest;
          hop = o.hop;
          filled = subst (λ (k : ℕ). entry_of (st k).node y ≡ known o.rest o.hop) h (entry_is w.hop ∙ o.there);
        },
        o.len,
        subst (λ (k : ℕ). IsArc net.arcs i k o.len) h o.arc,
        o.nearer,
      )

  pub nearer : (i : ℕ) (w : On i) → i ≢ y → (v : On (next i)) × (v.distance < w.distance)
  nearer i w ne = let o = one_hop i w ne in (o.0, omega (arith, o.3, acc.positive i (next i) o.1 o.2))

  -- more than the distance makes no difference
  enough : (k k' i : ℕ) (w : On i) → w.distance ≤ k → w.distance ≤ k' → hops st y k i ≡ hops st y k' i
  unfolding hops
  enough zero zero i w p q = refl
  enough zero (suc k') i w p q = go (eqb i y) refl
    where
      go : (b : Bool) → eqb i y ≡ b → [] ≡ cond b [] (next i ∷ hops st y k' (next i))
      go true e = refl
      go false e = absurd (omega (arith, (nearer i w (eqb-false i y e)).1))
  enough (suc k) zero i w p q = go (eqb i y) refl
    where
      go : (b : Bool) → eqb i y ≡ b → cond b [] (next i ∷ hops st y k (next i)) ≡ []
      go true e = refl
      go false e = absurd (omega (arith, (nearer i w (eqb-false i y e)).1))
  enough (suc k) (suc k') i w p q = go (λ v a b. enough k k' (next i) v a b) (eqb i y) refl
    where
      go : ((v : On (next i)) → v.distance ≤ k → v.distance ≤ k' → hops st y k (next i) ≡ hops st y k' (next i))
          → (b : Bool) → eqb i y ≡ b → cond b [] (next i ∷ hops st y k (next i)) ≡ cond b [] (next i ∷ hops st y k' (next i))
      go ih true e = refl
      go ih false e = let v = nearer i w (eqb-false i y e) in
          ap (λ (xs : List ℕ). next i ∷ xs) (ih v.0 (omega (arith, v.1)) (omega (arith, v.1)))

  pub route_here : (i : ℕ) → i ≡ y → route st y i ≡ []
  unfolding route
  route_here i e = go (distance_to st y i)
    where
      go : (k : ℕ) → hops st y k i ≡ []
      go zero = refl
      go (suc k) = rw (eq-eqb i y e)

  pub route_next : (i : ℕ) (w : On i) → i ≢ y → route st y i ≡ next i ∷ route st y (next i)
  unfolding route
  route_next i w ne =
      let v = nearer i w ne in
      let d : distance_to st y i ≡ suc (w.distance - 1) = distance_is i w ∙ omega (arith, v.1) in
      ap (λ (k : ℕ). hops st y k i) d
      ∙ ap (λ (b : Bool). cond b [] (next i ∷ hops st y (w.distance - 1) (next i))) (ne_eqb i y ne)
      ∙ ap (λ (xs : List ℕ). next i ∷ xs)
      (enough (w.distance - 1) (distance_to st y (next i)) (next i) v.0 (omega (arith, v.1))
      (le_of_eq (sym (distance_is (next i) v.0))))

  -- each node passed is nearer
  passed : (k i : ℕ) (w : On i) → w.distance ≤ k → (z : ℕ) → Among z (hops st y k i) → (v : On z) × (v.distance < w.distance)
  unfolding hops
  passed zero i w le z a = absurd a
  passed (suc k) i w le z a = go (λ v l b. passed k (next i) v l z b) (eqb i y) refl a
    where
      go : ((v : On (next i)) → v.distance ≤ k → Among z (hops st y k (next i)) → (u : On z) × (u.distance < v.distance))
          → (b : Bool) → eqb i y ≡ b → Among z (cond b [] (next i ∷ hops st y k (next i))) → (v : On z) × (v.distance < w.distance)
      go ih true e x = absurd x
      go ih false e (inl q) =
          subst (λ (n : ℕ). (v : On n) × (v.distance < w.distance)) (sym q) (nearer i w (eqb-false i y e))
      go ih false e (inr x) =
          let v = nearer i w (eqb-false i y e) in
          let u = ih v.0 (omega (arith, v.1)) x in
          (u.0, omega (arith, u.1, v.1))

  -- so no node is passed twice
  distinct : (k i : ℕ) (w : On i) → w.distance ≤ k → Distinct (hops st y k i)
  unfolding hops
  distinct zero i w le = tt
  distinct (suc k) i w le = go (λ v l. distinct k (next i) v l) (eqb i y) refl
    where
      go : ((v : On (next i)) → v.distance ≤ k → Distinct (hops st y k (next i)))
          → (b : Bool) → eqb i y ≡ b → Distinct (cond b [] (next i ∷ hops st y k (next i)))
      go ih true e = tt
      go ih false e =
          let v = nearer i w (eqb-false i y e) in (
            λ a.
                let u = passed k (next i) v.0 (omega (arith, v.1)) (next i) a in
                omega (arith, u.1, distance_is (next i) u.0, distance_is (next i) v.0),
            ih v.0 (omega (arith, v.1)),
          )

  module _ (i : ℕ) (w : On i) where
    at_most : w.distance ≤ distance_to st y i
    at_most = le_of_eq (sym (distance_is i w))

    -- nor is i
    pub route_distinct : Distinct (i ∷ route st y i)
    unfolding route
    route_distinct = (
      λ a. let u = passed (distance_to st y i) i w at_most i a in
          omega (arith, u.1, distance_is i u.0, distance_is i w),
      distinct (distance_to st y i) i w at_most,
    )

    pub route_few : length (route st y i) < net.n
    unfolding route
    route_few = few net.n (i ∷ route st y i) route_distinct node
      where
        node : (z : ℕ) → Among z (i ∷ route st y i) → IsNode net.n z
        node z (inl e) = subst (λ (k : ℕ). IsNode net.n k) (sym e) w.node
        node z (inr a) = (passed (distance_to st y i) i w at_most z a).0.node

  ends : (k i : ℕ) (w : On i) → w.distance ≤ k → last_of i (hops st y k i) ≡ y
  unfolding hops
  ends zero i w le = go (eqb i y) refl
    where
      go : (b : Bool) → eqb i y ≡ b → i ≡ y
      go true e = eqb-true i y e
      go false e = absurd (omega (arith, (nearer i w (eqb-false i y e)).1))
  ends (suc k) i w le = go (λ v l. ends k (next i) v l) (eqb i y) refl
    where
      go : ((v : On (next i)) → v.distance ≤ k → last_of (next i) (hops st y k (next i)) ≡ y)
          → (b : Bool) → eqb i y ≡ b → last_of i (cond b [] (next i ∷ hops st y k (next i))) ≡ y
      go ih true e = eqb-true i y e
      go ih false e = let v = nearer i w (eqb-false i y e) in ih v.0 (omega (arith, v.1))

  pub route_ends : (i : ℕ) → On i → last_of i (route st y i) ≡ y
  unfolding route
  route_ends i w = ends (distance_to st y i) i w (at_most i w)

  -- arc by arc the distance is passed
  over : (k i : ℕ) (w : On i) → w.distance ≤ k → Over net.arcs i (hops st y k i) w.distance
  unfolding hops
  over zero i w le = omega arith
  over (suc k) i w le = go (λ v l. over k (next i) v l) (eqb i y) refl
    where
      go : ((v : On (next i)) → v.distance ≤ k → Over net.arcs (next i) (hops st y k (next i)) v.distance)
          → (b : Bool) → eqb i y ≡ b → Over net.arcs i (cond b [] (next i ∷ hops st y k (next i))) w.distance
      go ih true e = home i w (eqb-true i y e)
      go ih false e =
          let o = one_hop i w (eqb-false i y e) in
          (o.1, o.0.distance, o.2, ih o.0 (omega (arith, o.3, acc.positive i (next i) o.1 o.2)), o.3)

  pub route_over : (i : ℕ) (w : On i) → Over net.arcs i (route st y i) w.distance
  unfolding route
  route_over i w = over (distance_to st y i) i w (at_most i w)
