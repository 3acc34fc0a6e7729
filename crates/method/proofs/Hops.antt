-- Following first hops reaches the target: law f.
use mathlib.Core.Path.{◌≡◌, refl, sym, ap, subst, ◌∙◌}
use mathlib.Core.Logic.{◌⊎◌, inl, inr, ◌≢◌}
use mathlib.Core.Bool.{Bool, true, false}
use mathlib.Core.List.{List}
use Prim.Native.Nat.{ℕ, ◌+◌}
use native.Mathlib.Omega.{arith}
use lib.Dec.{eqb}
use borrow.Author.Tests.{eqb-true, eqb-false}
use Rattle.method.specs.Network.{Net, IsArc, Valid, Positive}
use Rattle.method.specs.Distance.{via, FirstHop, Right}
use Rattle.method.specs.Rules.{Node}
use Rattle.method.specs.Steps.{Step}
use Rattle.method.specs.Entries.{known, entry_of, nodes, entry}
use Rattle.method.specs.Laws.{Leads, arrived, hop}
use Rattle.method.specs.Distinct.{Among}
use Rattle.method.specs.Invariant.{Has, Labelled}
use Rattle.method.proofs.Chains.{own_distance}
use Rattle.method.proofs.Table.{has_entry}
use Rattle.method.proofs.Lawful.{Lawful}
use Rattle.method.proofs.Always.{run_lawful}
use Rattle.method.proofs.Said.{known_filled, filled_known, filled_is_right, hop_zero}
use Rattle.method.proofs.Descent.{positive_loopless, descend}

-- the first hop of node i's entry for y has an entry for y too, nearer by the arc's length
pub record Onto (net : Net) (nodes : ℕ → Node) (i y d h : ℕ) : Type 0 where
  pub len : ℕ
  pub rest : ℕ
  pub hop : ℕ
  pub arc : IsArc net.arcs i h len
  pub there : entry_of (nodes h) y ≡ known rest hop
  pub nearer : d ≡ len + rest

module _ (net : Net) (va : Valid net) (nodes : ℕ → Node) (lawful : Lawful net nodes) (y : ℕ) where
  -- it was filled from a label that the hop had sent
  sent_by_hop : (i d h : ℕ) → entry_of (nodes i) y ≡ known d h → y ≢ i → Has y (nodes h).table
  sent_by_hop i d h e ne = go
      ((lawful.ok i).traced (record { target = y; distance = d; hop = h }) (known_filled net va nodes lawful i y d h e))
    where
      go : (y ≡ i) ⊎ Labelled y (lawful.view i h) → Has y (nodes h).table
      go (inl q) = absurd (ne q)
      go (inr l) = subst (λ (xs : List ℕ). Among y xs) (lawful.ok h).each (lawful.sent i h y l)

  pub onward : (i d h : ℕ) → entry_of (nodes i) y ≡ known d h → y ≢ i → Onto net nodes i y d h
  onward i d h e ne = go (filled_is_right net va nodes lawful i y d h e) (filled_is_right net va nodes lawful i y d h e).hop
    where
      go : Right net i y d h → ((y ≡ i) × (h ≡ 0)) ⊎ ((y ≢ i) × FirstHop net i y d h) → Onto net nodes i y d h
      go r (inl a) = absurd (ne a.0)
      go r (inr a) =
          let s = a.1.starts in
          let f = has_entry y (nodes h).table (sent_by_hop i d h e ne) in
          let there : entry_of (nodes h) y ≡ known f.0.distance f.0.hop = ap (λ (k : ℕ). entry_of (nodes h) k) f.2
          ∙ filled_known net va nodes lawful h f.0 f.1 in
          let q = (filled_is_right net va nodes lawful h y f.0.distance f.0.hop there).distance in
          let le = q.least s.rest s.chain in
          let ge = r.distance.least (s.len + f.0.distance) (via h s.len f.0.distance s.arc q.chain refl) in
          record { len = s.len; rest = f.0.distance; hop = f.0.hop; arc = s.arc; there = there; nearer = omega (arith, s.sum) }

module _ (net : Net) (va : Valid net) (bs : List Step) (y : ℕ) where
  pub onto : (i d h : ℕ) → entry net bs i y ≡ known d h → y ≢ i → Onto net (nodes net bs) i y d h
  onto i d h e ne = onward net va (nodes net bs) (run_lawful net va bs) y i d h e ne

  pub hops_lead : Positive net → (i d h : ℕ) → entry net bs i y ≡ known d h → Leads net bs y i d
  hops_lead positive i d h e = descend net va (positive_loopless net positive) P back i d h e
    where
      P : ℕ → ℕ → Type 0
      P i d = (h : ℕ) → entry net bs i y ≡ known d h → Leads net bs y i d

      back : (i d : ℕ) → ((j l r : ℕ) → IsArc net.arcs i j l → d ≡ l + r → P j r) → P i d
      back i d ih h e = go (eqb y i) refl
        where
          go : (b : Bool) → eqb y i ≡ b → Leads net bs y i d
          go true q =
              let s : y ≡ i = eqb-true y i q in
              let z : h ≡ 0 = (hop_zero net va (nodes net bs) (run_lawful net va bs) i y d h e).1 s in
              let di = (subst (λ (k : ℕ). Right net i k d h) s
              (filled_is_right net va (nodes net bs) (run_lawful net va bs) i y d h e)).distance in
              arrived (sym s) (e ∙ ap (known d) z) (own_distance net.arcs i d di)
          go false q =
              let o = onto i d h e (eqb-false y i q) in
              hop h o.len o.rest e o.arc o.nearer (omega (arith, o.nearer, positive i h o.len o.arc))
              (ih h o.len o.rest o.arc o.nearer o.hop o.there)
