-- Following first hops reaches the target and passes no node twice, where no loop consists of zero arcs only: law p.
use mathlib.Core.Path.{◌≡◌, refl, sym, ap, subst, ◌∙◌}
use mathlib.Core.Logic.{inl, inr}
use mathlib.Core.Bool.{Bool, true, false}
use mathlib.Core.List.{List, [], ◌∷◌}
use Prim.Native.Nat.{ℕ, ◌+◌, ◌<◌}
use native.Mathlib.Omega.{arith}
use lib.Dec.{eqb}
use lib.ListN.{length}
use borrow.Author.Tests.{eqb-true, eqb-false}
use Rattle.method.specs.Network.{Net, IsNode, IsArc, Valid}
use Rattle.method.specs.Distance.{Right}
use Rattle.method.specs.Rules.{Node}
use Rattle.method.specs.Entries.{Entry, known, entry_of}
use Rattle.method.specs.Distinct.{Among, Distinct}
use Rattle.method.specs.Loop.{Zeros, one, more, Loopless, Way}
use Rattle.method.proofs.Numbers.{few}
use Rattle.method.proofs.Chains.{own_distance}
use Rattle.method.proofs.Lawful.{Lawful}
use Rattle.method.proofs.Said.{filled_is_right, hop_zero}
use Rattle.method.proofs.Descent.{descend}
use Rattle.method.proofs.Hops.{onward}

-- a known entry says one distance
same_known : (x : Entry) (d d' h h' : ℕ) → x ≡ known d h → x ≡ known d' h' → d ≡ d'
same_known x d d' h h' p q = cc

module _ (net : Net) (va : Valid net) (loopless : Loopless net) (nodes : ℕ → Node) (lawful : Lawful net nodes) (y : ℕ) where
  way : (i d h : ℕ) → entry_of (nodes i) y ≡ known d h → (xs : List ℕ) × Way net nodes y i d xs
  way i d h e = descend net va loopless P back i d h e
    where
      P : ℕ → ℕ → Type 0
      P i d = (h : ℕ) → entry_of (nodes i) y ≡ known d h → (xs : List ℕ) × Way net nodes y i d xs

      back : (i d : ℕ) → ((j l r : ℕ) → IsArc net.arcs i j l → d ≡ l + r → P j r) → P i d
      back i d ih h e = go (eqb y i) refl
        where
          go : (b : Bool) → eqb y i ≡ b → (xs : List ℕ) × Way net nodes y i d xs
          go true q =
              let s : y ≡ i = eqb-true y i q in
              let z : h ≡ 0 = (hop_zero net va nodes lawful i y d h e).1 s in
              let at_home = (subst (λ (k : ℕ). Right net i k d h) s (filled_is_right net va nodes lawful i y d h e)).distance in
              ([], (sym s, e ∙ ap (known d) z, own_distance net.arcs i d at_home))
          go false q =
              let o = onward net va nodes lawful y i d h e (eqb-false y i q) in
              let rest = ih h o.len o.rest o.arc o.nearer o.hop o.there in
              (h ∷ rest.0, (o.len, o.rest, e, o.arc, o.nearer, rest.1))

  -- a node on the way from i: its entry, how far it is from i, and the zero arcs to it where that is 0
  record On (i d z : ℕ) : Type 0 where
    pub far : ℕ
    pub rest : ℕ
    pub hop : ℕ
    pub is : entry_of (nodes z) y ≡ known rest hop
    pub sum : d ≡ far + rest
    pub zeros : far ≡ 0 → Zeros net.arcs i z

  way_entry : (i d : ℕ) (xs : List ℕ) → Way net nodes y i d xs → (h : ℕ) × (entry_of (nodes i) y ≡ known d h)
  way_entry i d [] w = (0, w.1)
  way_entry i d (h ∷ xs) w = (h, w.2)

  on_way : (i d : ℕ) (xs : List ℕ) → Way net nodes y i d xs → (z : ℕ) → Among z xs → On i d z
  on_way i d [] w z x'' = elim x'' [ ]
  on_way i d (h ∷ xs) w z (inl q) =
      let e = way_entry h w.1 xs w.5 in
      record {
        far = w.0;
        rest = w.1;
        hop = e.0;
        is = ap (λ (k : ℕ). entry_of (nodes k) y) q ∙ e.1;
        sum = w.4;
        zeros = λ n. one (subst (λ (k : ℕ). IsArc net.arcs i k 0) (sym q) (subst (λ (l : ℕ). IsArc net.arcs i h l) n w.3));
      }
  on_way i d (h ∷ xs) w z (inr m) = farther (on_way h w.1 xs w.5 z m)
    where
      farther : On h w.1 z → On i d z
      farther o =
          record {
            far = w.0 + o.far;
            rest = o.rest;
            hop = o.hop;
            is = o.is;
            sum = omega (arith, w.4, o.sum);
            zeros = λ n. more h (subst (λ (l : ℕ). IsArc net.arcs i h l) (omega arith) w.3) (o.zeros (omega arith));
          }

  -- who comes back to a node is as far from y as before, so has gone over zero arcs only
  never_back : (i d : ℕ) (xs : List ℕ) → Way net nodes y i d xs → Among i xs → ⊥
  never_back i d xs w m =
      let o = on_way i d xs w i m in
      let e = way_entry i d xs w in
      let same = same_known (entry_of (nodes i) y) d o.rest e.0 o.hop e.1 o.is in
      loopless i (o.zeros (omega (arith, o.sum)))

  way_distinct : (i d : ℕ) (xs : List ℕ) → Way net nodes y i d xs → Distinct (i ∷ xs)
  way_distinct i d [] w = (λ m. m, tt)
  way_distinct i d (h ∷ xs) w = (λ m. never_back i d (h ∷ xs) w m, way_distinct h w.1 xs w.5)

  pub ways_lead : (i d h : ℕ) → entry_of (nodes i) y ≡ known d h → (xs : List ℕ) × Way net nodes y i d xs × Distinct (i ∷ xs)
  ways_lead i d h e = let w = way i d h e in (w.0, w.1, way_distinct i d w.0 w.1)

-- a way is over nodes, and has fewer hops than there are nodes
way_nodes : (net : Net) → Valid net → (nodes : ℕ → Node) (y i d : ℕ) (xs : List ℕ) → Way net nodes y i d xs → (z : ℕ) → Among z xs
    → IsNode net.n z
way_nodes net va nodes y i d [] w z x'' = elim x'' [ ]
way_nodes net va nodes y i d (h ∷ xs) w z (inl q) = subst (λ (k : ℕ). IsNode net.n k) (sym q) (va.heads i h w.0 w.3)
way_nodes net va nodes y i d (h ∷ xs) w z (inr m) = way_nodes net va nodes y h w.1 xs w.5 z m

pub way_short : (net : Net) → Valid net → (nodes : ℕ → Node) (y i d : ℕ) (xs : List ℕ) → IsNode net.n i → Way net nodes y i d xs
    → Distinct (i ∷ xs) → length xs < net.n
way_short net va nodes y i d xs at w apart = few net.n (i ∷ xs) apart node
  where
    node : (z : ℕ) → Among z (i ∷ xs) → IsNode net.n z
    node z (inl q) = subst (λ (k : ℕ). IsNode net.n k) (sym q) at
    node z (inr m) = way_nodes net va nodes y i d xs w z m
