-- What an entry says, however messages travel: laws a, b, c, d and h.
use mathlib.Core.Path.{◌≡◌, refl, sym, ap, ap₂, subst, ◌∙◌}
use mathlib.Core.Logic.{◌⊎◌, inl, inr, ◌≢◌, ◌↔◌}
use mathlib.Core.Option.{Option, none, some}
use mathlib.Core.List.{List, ◌∷◌, ◌++◌}
use Prim.Native.Nat.{ℕ, ◌≤◌}
use native.Mathlib.Omega.{arith}
use Rattle.method.specs.Network.{Net, IsNode, Valid, Ranked}
use Rattle.method.specs.Distance.{Chain, NoChain, FirstHop, Right}
use Rattle.method.specs.Message.{Msg, end}
use Rattle.method.specs.Rules.{Filled, Phase, unstarted, started, stopped, Node}
use Rattle.method.specs.Entries.{Entry, unknown, unreachable, known, find, said, entry_of}
use Rattle.method.specs.Distinct.{Among, Distinct}
use Rattle.method.specs.Invariant.{In, Has, Labelled, Good}
use Rattle.method.proofs.Sent.{labels_distinct}
use Rattle.method.proofs.Chains.{own_distance, same_distance, same_hop}
use Rattle.method.proofs.Table.{Once, has_entry, in_has, in_more, Found, find_ok, find_in}
use Rattle.method.proofs.Turns.{stage, Later}
use Rattle.method.proofs.Lawful.{Lawful}

abbrev filled : ℕ → ℕ → ℕ → Filled
filled y d h = record { target = y; distance = d; hop = h }

-- what stands behind an entry for y of a node in phase ph with the table es
abbrev Means : Phase → List Filled → ℕ → Entry → Type 0
Means ph es y unknown = (ph ≡ stopped → ⊥) × (Has y es → ⊥)
Means ph es y unreachable = (ph ≡ stopped) × (Has y es → ⊥)
Means ph es y (known d h) = In (filled y d h) es

means : (ph : Phase) (es : List Filled) (y : ℕ) → Means ph es y (said ph (find y es))
means ph es y = go ph refl (find y es) (find_ok y es)
  where
    go : (p : Phase) → ph ≡ p → (o : Option Filled) → Found y es o → Means ph es y (said p o)
    go p e (some x) f = subst (λ (k : ℕ). In (filled k x.distance x.hop) es) f.1 f.0
    go unstarted e none f = (λ q. let z : ◌≡◌ {A = ℕ} 0 1 = cc in omega arith, f)
    go started e none f = (λ q. let z : ◌≡◌ {A = ℕ} 0 1 = cc in omega arith, f)
    go stopped e none f = (e, f)

-- a stopped node says "unreachable" of what has no entry
unsaid : (ph : Phase) (es : List Filled) (y : ℕ) → ph ≡ stopped → (Has y es → ⊥) → said ph (find y es) ≡ unreachable
unsaid ph es y e n = go (find y es) (find_ok y es)
  where
    go : (o : Option Filled) → Found y es o → said ph o ≡ unreachable
    go none f = ap (λ (p : Phase). said p none) e
    go (some x) f = absurd (n (subst (λ (k : ℕ). Has k es) f.1 (in_has x es f.0)))

still_stopped : (ph ph' : Phase) → ph ≡ stopped → stage ph ≤ stage ph' → ph' ≡ stopped
still_stopped ph unstarted e le = let q : stage ph ≡ 2 = ap stage e in absurd (omega arith)
still_stopped ph started e le = let q : stage ph ≡ 2 = ap stage e in absurd (omega arith)
still_stopped ph stopped e le = refl

module _ (net : Net) (va : Valid net) (nodes : ℕ → Node) (lawful : Lawful net nodes) where
  pub once : (i : ℕ) → Once (nodes i).table
  once i = subst Distinct (lawful.ok i).each (labels_distinct net.arcs i (nodes i).sent (lawful.ok i).good)

  -- a known entry is a filled one, and back
  pub known_filled : (i y d h : ℕ) → entry_of (nodes i) y ≡ known d h → In (filled y d h) (nodes i).table
  known_filled i y d h e = subst (λ (x : Entry). Means (nodes i).phase (nodes i).table y x) e (means (nodes i).phase (nodes i).table y)

  pub filled_known : (i : ℕ) (e : Filled) → In e (nodes i).table → entry_of (nodes i) e.target ≡ known e.distance e.hop
  filled_known i e m = ap (said (nodes i).phase) (find_in e (nodes i).table (once i) m)

  -- a
  pub filled_is_right : (i y d h : ℕ) → entry_of (nodes i) y ≡ known d h → Right net i y d h
  filled_is_right i y d h e = (lawful.ok i).right (filled y d h) (known_filled i y d h e)

  has_chain : (i y : ℕ) → Has y (nodes i).table → (d : ℕ) × Chain net.arcs i y d
  has_chain i y h =
      let r = has_entry y (nodes i).table h in (
        r.0.distance,
        subst (λ (k : ℕ). Chain net.arcs i k r.0.distance) (sym r.2)
            ((lawful.ok i).right r.0 r.1).distance.chain,
      )

  -- a stopped node has an entry for all that it can reach
  pub stopped_has : (i : ℕ) → (nodes i).phase ≡ stopped → (y s : ℕ) → Chain net.arcs i y s → Has y (nodes i).table
  stopped_has i e y s c =
      let sh = (lawful.ok i).shut e in
      let g : Good net.arcs i (end ∷ sh.0) = subst (λ (r : List Msg). Good net.arcs i r) sh.1 (lawful.ok i).good in
      subst (λ (xs : List ℕ). Among y xs) (lawful.ok i).each (subst (λ (r : List Msg). Labelled y r) (sym sh.1) (g.1 y s c))

  -- d
  pub unreachable_no_chain : (i y : ℕ) → entry_of (nodes i) y ≡ unreachable → ((nodes i).phase ≡ stopped) × NoChain net.arcs i y
  unreachable_no_chain i y e =
      let m : Means (nodes i).phase (nodes i).table y unreachable = subst (λ (x : Entry). Means (nodes i).phase (nodes i).table y x) e
      (means (nodes i).phase (nodes i).table y) in
      (m.0, λ s c. m.1 (stopped_has i m.0 y s c))

  pub no_chain_unreachable : (i y : ℕ) → (nodes i).phase ≡ stopped → NoChain net.arcs i y → entry_of (nodes i) y ≡ unreachable
  no_chain_unreachable i y e none-leads =
      unsaid (nodes i).phase (nodes i).table y e (λ h. let c = has_chain i y h in none-leads c.0 c.1)

  pub stopped_unreachable : (i : ℕ) → (nodes i).phase ≡ stopped → (y : ℕ) → (entry_of (nodes i) y ≡ unreachable) ↔ NoChain net.arcs i y
  stopped_unreachable i e y = (λ q. (unreachable_no_chain i y q).1, λ n. no_chain_unreachable i y e n)

  pub all_stopped : ((i : ℕ) → IsNode net.n i → (nodes i).phase ≡ stopped)
      → (i y : ℕ) → IsNode net.n i → ((d : ℕ) × (h : ℕ) × (entry_of (nodes i) y ≡ known d h)) ⊎ NoChain net.arcs i y
  all_stopped all i y at = go (entry_of (nodes i) y) refl (means (nodes i).phase (nodes i).table y)
    where
      go : (x : Entry) → entry_of (nodes i) y ≡ x → Means (nodes i).phase (nodes i).table y x
          → ((d : ℕ) × (h : ℕ) × (entry_of (nodes i) y ≡ known d h)) ⊎ NoChain net.arcs i y
      go unknown e m = absurd (m.0 (all i at))
      go unreachable e m = inr (unreachable_no_chain i y e).1
      go (known d h) e m = inl (d, h, e)

  -- h
  pub unstarted_unknown : (i : ℕ) → (nodes i).phase ≡ unstarted → (y : ℕ) → entry_of (nodes i) y ≡ unknown
  unstarted_unknown i e y = ap₂ (λ (ph : Phase) (es : List Filled). said ph (find y es)) e ((lawful.ok i).blank e).1

  pub own_known : (i : ℕ) → (nodes i).phase ≢ unstarted → entry_of (nodes i) i ≡ known 0 0
  own_known i ne =
      let r = has_entry i (nodes i).table ((lawful.ok i).own ne) in
      let e : entry_of (nodes i) i ≡ known r.0.distance r.0.hop = ap (λ (k : ℕ). entry_of (nodes i) k) r.2
      ∙ filled_known i r.0 r.1 in
      let ri = filled_is_right i i r.0.distance r.0.hop e in
      e ∙ ap₂ known (own_distance net.arcs i r.0.distance ri.distance) (zero_hop r.0.distance r.0.hop ri.hop)
    where
      zero_hop : (d h : ℕ) → ((i ≡ i) × (h ≡ 0)) ⊎ ((i ≢ i) × FirstHop net i i d h) → h ≡ 0
      zero_hop d h (inl a) = a.1
      zero_hop d h (inr a) = absurd (a.0 refl)

  pub hop_zero : (i y d h : ℕ) → entry_of (nodes i) y ≡ known d h → (h ≡ 0) ↔ (y ≡ i)
  hop_zero i y d h e = go (filled_is_right i y d h e).hop
    where
      go : ((y ≡ i) × (h ≡ 0)) ⊎ ((y ≢ i) × FirstHop net i y d h) → (h ≡ 0) ↔ (y ≡ i)
      go (inl a) = (λ q. a.0, λ q. a.1)
      go (inr a) =
          let s = a.1.starts in
          let at = va.heads i h s.len s.arc in
          (λ q. absurd (omega (arith, at.0)), λ q. absurd (a.0 q))

-- b
module _ (net : Net) (va : Valid net) (nodes nodes' : ℕ → Node) (before : Lawful net nodes) (after : Lawful net nodes') (i : ℕ)
    (later : Later (nodes i) (nodes' i)) where
  pub final : (y : ℕ) → entry_of (nodes i) y ≢ unknown → entry_of (nodes' i) y ≡ entry_of (nodes i) y
  final y ne = go (entry_of (nodes i) y) refl
    where
      go : (x : Entry) → entry_of (nodes i) y ≡ x → entry_of (nodes' i) y ≡ entry_of (nodes i) y
      go unknown e = absurd (ne e)
      go unreachable e =
          let u = unreachable_no_chain net va nodes before i y e in
          no_chain_unreachable net va nodes' after i y (still_stopped (nodes i).phase (nodes' i).phase u.0 later.stage_le) u.1
          ∙ sym e
      go (known d h) e =
          let g = later.more_table in
          let m : In (filled y d h) (g.0 ++ (nodes i).table) =
          in_more (filled y d h) g.0 (nodes i).table (known_filled net va nodes before i y d h e) in
          filled_known net va nodes' after i (filled y d h) (subst (λ (t : List Filled). In (filled y d h) t) (sym g.1) m) ∙ sym e

-- c
module _ (net : Net) (va : Valid net) where
  apart : (nodes nodes' : ℕ → Node) → Lawful net nodes → Lawful net nodes' → (i y d h : ℕ) → entry_of (nodes i) y ≡ unreachable
      → entry_of (nodes' i) y ≡ known d h → ⊥
  apart nodes nodes' one other i y d h e f =
      (unreachable_no_chain net va nodes one i y e).1 d (filled_is_right net va nodes' other i y d h f).distance.chain

  -- two runs of any kind
  pub orders_agree : Ranked net → (nodes nodes' : ℕ → Node) → Lawful net nodes → Lawful net nodes' → (i y : ℕ)
      → entry_of (nodes i) y ≢ unknown → entry_of (nodes' i) y ≢ unknown → entry_of (nodes i) y ≡ entry_of (nodes' i) y
  orders_agree inj nodes nodes' one other i y nb nc = go (entry_of (nodes i) y) refl (entry_of (nodes' i) y) refl
    where
      go : (x : Entry) → entry_of (nodes i) y ≡ x → (w : Entry) → entry_of (nodes' i) y ≡ w → entry_of (nodes i) y ≡ entry_of (nodes' i) y
      go unknown e w f = absurd (nb e)
      go unreachable e unknown f = absurd (nc f)
      go unreachable e unreachable f = e ∙ sym f
      go unreachable e (known d h) f = absurd (apart nodes nodes' one other i y d h e f)
      go (known d h) e unknown f = absurd (nc f)
      go (known d h) e unreachable f = absurd (apart nodes' nodes other one i y d h f e)
      go (known d h) e (known d' h') f =
          let p = filled_is_right net va nodes one i y d h e in
          let q = filled_is_right net va nodes' other i y d' h' f in
          e ∙ ap₂ known (same_distance net va inj i y d d' h h' p q) (same_hop net va inj i y d d' h h' p q) ∙ sym f
