-- The order in which a node fills its entries is the same in every run, with arcs of length 0 too. Tables are newest first.
use mathlib.Core.Path.{◌≡◌, refl, sym, ap, subst, ◌∙◌}
use mathlib.Core.Logic.{◌⊎◌, inl, inr}
use mathlib.Core.List.{List, [], ◌∷◌, ◌++◌, append-nil}
use Prim.Native.Nat.{ℕ, ◌+◌}
use native.Mathlib.Omega.{arith}
use Rattle.method.specs.Network.{Net, IsArc, Valid, Ranked}
use Rattle.method.specs.Distance.{Chain, Starts}
use Rattle.method.specs.Rules.{Filled}
use Rattle.method.specs.Order.{Begins}
use Rattle.method.specs.Invariant.{Has}
use Rattle.method.proofs.Choosing.{Before}

-- of all nodes without entry in es, and of all ways to them, e is the first: by distance, then by the hop's rank
pub record First (net : Net) (i : ℕ) (es : List Filled) (e : Filled) : Type 0 where
  pub own : Has i es
  pub new : Has e.target es → ⊥
  pub starts : Starts net.arcs i e.target e.distance e.hop
  pub first : (z h l s : ℕ) → IsArc net.arcs i h l → Chain net.arcs h z s → (Has z es → ⊥)
      → Before net.rank e.distance e.hop (l + s) h

-- what a node fills when it starts
abbrev pub own : ℕ → Filled
own i = record { target = i; distance = 0; hop = 0 }

-- A table that node i can have: its own entry; then each time a first one, f at its hop, where all that the hop has filled before f
-- has an entry here. The derivation itself is what goes down, so neither an order of nodes nor positive lengths are needed.
pub data Canon (net : Net) : ℕ → List Filled → Type 0 where
  nothing : {i : ℕ} {es : List Filled} → es ≡ [] → Canon net i es
  itself : {i : ℕ} {es : List Filled} → es ≡ own i ∷ [] → Canon net i es
  next : {i : ℕ} {fs : List Filled} (e : Filled) (es : List Filled) (f : Filled) (hs : List Filled) → Canon net i es
      → Canon net e.hop (f ∷ hs)
      → First net i es e → f.target ≡ e.target → ((z : ℕ) → Has z hs → Has z es) → fs ≡ e ∷ es → Canon net i fs

-- lists by their newest
nil_cons : {A : Type 0} (e : Filled) (es : List Filled) → e ∷ es ≡ [] → A
nil_cons e es q = let z : ◌≡◌ {A = ℕ} 0 1 = cc in absurd (omega arith)

head_eq : (e f : Filled) (es fs : List Filled) → e ∷ es ≡ f ∷ fs → e ≡ f
head_eq e f es fs q = cc

tail_eq : (e f : Filled) (es fs : List Filled) → e ∷ es ≡ f ∷ fs → es ≡ fs
tail_eq e f es fs q = cc

same_filled : (e f : Filled) → e.target ≡ f.target → e.distance ≡ f.distance → e.hop ≡ f.hop → e ≡ f
same_filled e f t d h =
    let parts : ◌≡◌ {A = Filled} (record { target = e.target; distance = e.distance; hop = e.hop })
    (record { target = f.target; distance = f.distance; hop = f.hop }) = cc in
    parts

canon_tail : (net : Net) (i : ℕ) (e : Filled) (es : List Filled) → Canon net i (e ∷ es) → Canon net i es
canon_tail net i e es (nothing q) = nil_cons e es q
canon_tail net i e es (itself q) = nothing (tail_eq e (own i) es [] q)
canon_tail net i e es (next e' es' f hs c d w t o q) = subst (λ (r : List Filled). Canon net i r) (sym (tail_eq e e' es es' q)) c

pub canon_drop : (net : Net) (i : ℕ) (g es : List Filled) → Canon net i (g ++ es) → Canon net i es
canon_drop net i [] es c = c
canon_drop net i (e ∷ g) es c = canon_drop net i g es (canon_tail net i e (g ++ es) c)

-- a node's own entry is the first that it fills
pub canon_own : (net : Net) (i : ℕ) (e : Filled) (es : List Filled) → Canon net i (e ∷ es) → (e.target ≡ i) ⊎ Has i es
canon_own net i e es (nothing q) = nil_cons e es q
canon_own net i e es (itself q) = inl (ap (λ (f : Filled). f.target) (head_eq e (own i) es [] q))
canon_own net i e es (next e' es' f hs c d w t o q) = inr (subst (λ (r : List Filled). Has i r) (sym (tail_eq e e' es es' q)) w.own)

abbrev pub Alike : List Filled → List Filled → Type 0
Alike es fs = Begins fs es ⊎ Begins es fs

-- what a longer list has next
after : (g es fs : List Filled) → fs ≡ g ++ es → (fs ≡ es) ⊎ ((e : Filled) × Begins (e ∷ es) fs)
after [] es fs q = inl q
after (f ∷ g) es fs q = go (after g es (g ++ es) refl)
  where
    go : (g ++ es ≡ es) ⊎ ((e : Filled) × Begins (e ∷ es) (g ++ es)) → (fs ≡ es) ⊎ ((e : Filled) × Begins (e ∷ es) fs)
    go (inl r) = inr (f, ([], q ∙ ap (λ (r : List Filled). f ∷ r) r))
    go (inr r) = inr (r.0, (f ∷ r.1.0, q ∙ ap (λ (r : List Filled). f ∷ r) r.1.1))

has_in : (e : Filled) (g es : List Filled) → Has e.target (g ++ (e ∷ es))
has_in e [] es = inl refl
has_in e (f ∷ g) es = inr (has_in e g es)

module _ (net : Net) (va : Valid net) (ranked : Ranked net) where
  -- a list that has the same next one stays alike
  grow : (i : ℕ) (e : Filled) (es fs : List Filled) → Alike es fs → Canon net i fs → ((f : Filled) → Canon net i (f ∷ es) → e ≡ f)
      → Alike (e ∷ es) fs
  grow i e es fs (inl r) c same = inl (e ∷ r.0, ap (λ (r : List Filled). e ∷ r) r.1)
  grow i e es fs (inr r) c same = go (after r.0 es fs r.1)
    where
      go : (fs ≡ es) ⊎ ((f : Filled) × Begins (f ∷ es) fs) → Alike (e ∷ es) fs
      go (inl q) = inl (e ∷ [], ap (λ (r : List Filled). e ∷ r) (sym q))
      go (inr t) =
          let c₁ : Canon net i (t.0 ∷ es) =
          canon_drop net i t.1.0 (t.0 ∷ es) (subst (λ (r : List Filled). Canon net i r) t.1.1 c) in
          inr (t.1.0, t.1.1 ∙ ap (λ (f : Filled). t.1.0 ++ (f ∷ es)) (sym (same t.0 c₁)))

  -- two that are each first have the same distance and hop
  tied : (i : ℕ) (e f : Filled) (es : List Filled) → First net i es e → First net i es f → (e.distance ≡ f.distance) × (e.hop ≡ f.hop)
  tied i e f es p q =
      let s = p.starts in
      let t = q.starts in
      both (p.first f.target f.hop t.len t.rest t.arc t.chain q.new)
      (q.first e.target e.hop s.len s.rest s.arc s.chain p.new)
    where
      both : Before net.rank e.distance e.hop (q.starts.len + q.starts.rest) f.hop
          → Before net.rank f.distance f.hop (p.starts.len + p.starts.rest) e.hop
          → (e.distance ≡ f.distance) × (e.hop ≡ f.hop)
      both (inl a) (inl b) = absurd (omega (arith, p.starts.sum, q.starts.sum))
      both (inl a) (inr b) = absurd (omega (arith, p.starts.sum, q.starts.sum))
      both (inr a) (inl b) = absurd (omega (arith, p.starts.sum, q.starts.sum))
      both (inr a) (inr b) = (
        omega (arith, q.starts.sum),
        ranked e.hop f.hop (va.heads i e.hop p.starts.len p.starts.arc)
            (va.heads i f.hop q.starts.len q.starts.arc) (omega arith),
      )

  -- two that the same hop filled, each when all before it had an entry here
  met : (es : List Filled) (f f' : Filled) (hs hs' : List Filled) → (Has f.target es → ⊥) → (Has f'.target es → ⊥)
      → ((z : ℕ) → Has z hs → Has z es) → ((z : ℕ) → Has z hs' → Has z es) → Alike (f ∷ hs) (f' ∷ hs') → f.target ≡ f'.target
  met es f f' hs hs' n n' o o' (inl ([], q)) = ap (λ (e : Filled). e.target) (head_eq f f' hs hs' q)
  met es f f' hs hs' n n' o o' (inl (e ∷ g, q)) =
      absurd (n' (o f'.target
      (subst (λ (r : List Filled). Has f'.target r) (sym (tail_eq f e hs (g ++ (f' ∷ hs')) q)) (has_in f' g hs'))))
  met es f f' hs hs' n n' o o' (inr ([], q)) = sym (ap (λ (e : Filled). e.target) (head_eq f' f hs' hs q))
  met es f f' hs hs' n n' o o' (inr (e ∷ g, q)) =
      absurd (n (o' f.target
      (subst (λ (r : List Filled). Has f.target r) (sym (tail_eq f' e hs' (g ++ (f ∷ hs)) q)) (has_in f g hs))))

  -- of two tables of one node, one is the older part of the other
  pub alike : (i : ℕ) (es fs : List Filled) → Canon net i es → Canon net i fs → Alike es fs
  alike i es fs (nothing q) c = inr (fs, sym (ap (λ (r : List Filled). fs ++ r) q ∙ append-nil fs))
  alike i es fs (itself q) c =
      subst (λ (r : List Filled). Alike r fs) (sym q) (grow i (own i) [] fs (inr (fs, sym (append-nil fs))) c begins)
    where
      begins : (f : Filled) → Canon net i (f ∷ []) → own i ≡ f
      begins f (nothing r) = nil_cons f [] r
      begins f (itself r) = sym (head_eq f (own i) [] [] r)
      begins f (next e es g hs c₁ c₂ w t o r) = absurd (subst (λ (r : List Filled). Has i r) (sym (tail_eq f e [] es r)) w.own)
  alike i es fs (next e es₁ f hs d b w t o q) c =
      subst (λ (r : List Filled). Alike r fs) (sym q)
      (grow i e es₁ fs (alike i es₁ fs d c) c (λ g cg. same g cg (λ us cu. alike e.hop (f ∷ hs) us b cu)))
    where
      same : (g : Filled) → Canon net i (g ∷ es₁) → ((us : List Filled) → Canon net e.hop us → Alike (f ∷ hs) us) → e ≡ g
      same g (nothing r) ih = nil_cons g es₁ r
      same g (itself r) ih = absurd (subst (λ (r : List Filled). Has i r) (tail_eq g (own i) es₁ [] r) w.own)
      same g (next e' es' f' hs' c₁ c₂ w' t' o' r) ih =
          let eq : es' ≡ es₁ = sym (tail_eq g e' es₁ es' r) in
          let w₁ : First net i es₁ e' = subst (λ (r : List Filled). First net i r e') eq w' in
          let tie = tied i e e' es₁ w w₁ in
          let c₃ : Canon net e.hop (f' ∷ hs') = subst (λ (h : ℕ). Canon net h (f' ∷ hs')) (sym tie.1) c₂ in
          let target =
          met es₁ f f' hs hs' (subst (λ (y : ℕ). Has y es₁ → ⊥) (sym t) w.new) (subst (λ (y : ℕ). Has y es₁ → ⊥) (sym t') w₁.new)
          o (λ z m. subst (λ (r : List Filled). Has z r) eq (o' z m)) (ih (f' ∷ hs') c₃) in
          same_filled e e' (sym t ∙ target ∙ t') tie.0 tie.1 ∙ sym (head_eq g e' es₁ es' r)
