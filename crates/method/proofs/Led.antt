-- The first hop of each record is its target, or has an earlier record that goes straight to it: law o.
use mathlib.Core.Path.{◌≡◌, refl, sym, ap, subst, ◌∙◌}
use mathlib.Core.Logic.{◌⊎◌, inl, inr, ◌≢◌}
use mathlib.Core.Bool.{Bool, true, false, cond}
use mathlib.Core.List.{List, ◌∷◌}
use Prim.Native.Nat.{ℕ, ◌+◌}
use native.Mathlib.Omega.{arith}
use lib.Dec.{eqb}
use borrow.Author.Tests.{eqb-true, eqb-false, eq-eqb}
use Rattle.method.specs.Network.{Arc, Net, Valid, Ranked}
use Rattle.method.specs.Distance.{Chain, here, via, Starts, FirstHop, Right}
use Rattle.method.specs.Rules.{Filled, Node}
use Rattle.method.specs.Entries.{others, records_of}
use Rattle.method.specs.Order.{Direct, AllLed}
use Rattle.method.specs.Invariant.{In, Has}
use Rattle.method.proofs.Table.{has_entry}
use Rattle.method.proofs.Lawful.{Lawful}
use Rattle.method.proofs.Order.{Canon, nothing, itself, next, canon_own}
use Rattle.method.proofs.Same.{canon_of}

-- two chains, one after the other
join : (ar : List Arc) (i h y s t : ℕ) → Chain ar i h s → Chain ar h y t → Chain ar i y (s + t)
join ar i h y s t (here e q) c =
    let w : t ≡ s + t = omega arith in
    subst (λ (d : ℕ). Chain ar i y d) w (subst (λ (k : ℕ). Chain ar k y t) (sym e) c)
join ar i h y s t (via k l r a c q) d =
    let w : s + t ≡ l + (r + t) = omega arith in
    via k l (r + t) a (join ar k h y r t c d) w

module _ (net : Net) (va : Valid net) (ranked : Ranked net) (i : ℕ) where
  -- a hop is its own first hop: a way that went before the arc to it would go before it to the target too
  straight : (y d h d' k : ℕ) → FirstHop net i y d h → Right net i y d h → Right net i h d' k → k ≡ h
  straight y d h d' k f r g = go g.hop
    where
      s : Starts net.arcs i y d h
      s = f.starts

      go : ((h ≡ i) × (k ≡ 0)) ⊎ ((h ≢ i) × FirstHop net i h d' k) → k ≡ h
      go (inl own) = absurd (va.apart i h s.len s.arc (sym own.0))
      go (inr by) =
          let t = by.1.starts in
          let w : s.len ≡ s.len + 0 = omega arith in
          let le = g.distance.least s.len (via h s.len 0 s.arc (here refl refl) w) in
          let ge = r.distance.least (d' + s.rest) (join net.arcs i h y d' s.rest g.distance.chain s.chain) in
          let low = by.1.lowest h
          (record { len = s.len; rest = 0; arc = s.arc; chain = here refl refl; sum = omega (arith, s.sum) }) in
          let low' = f.lowest k
          (record {
            len = t.len;
            rest = t.rest + s.rest;
            arc = t.arc;
            chain = join net.arcs k h y t.rest s.rest t.chain s.chain;
            sum = omega (arith, s.sum, t.sum);
          }) in
          ranked k h (va.heads i k t.len t.arc) (va.heads i h s.len s.arc) (omega arith)

  direct_others : (h : ℕ) → h ≢ i → (es : List Filled) (f : Filled) → In f es → f.target ≡ h → f.hop ≡ h → Direct h (others i es)
  direct_others h ne mathlib.Core.List.[] f m t p = elim m [ ]
  direct_others h ne (e ∷ es) f m t p = by (eqb e.target i) refl m (λ w. direct_others h ne es f w t p)
    where
      by : (b : Bool) → eqb e.target i ≡ b → In f (e ∷ es) → (In f es → Direct h (others i es))
          → Direct h (cond b (others i es) (e ∷ others i es))
      by true q (inl w) rec = absurd (ne (sym t ∙ ap (λ (g : Filled). g.target) w ∙ eqb-true e.target i q))
      by true q (inr w) rec = rec w
      by false q (inl w) rec = inl (ap (λ (g : Filled). g.target) (sym w) ∙ t, ap (λ (g : Filled). g.hop) (sym w) ∙ p)
      by false q (inr w) rec = inr (rec w)

  -- the hop's own label came first from it, so the hop has an entry before all that it led to
  led : (es : List Filled) → ((e : Filled) → In e es → Right net i e.target e.distance e.hop) → Canon net i es
      → AllLed (others i es)
  led es right (nothing q) = subst (λ (r : List Filled). AllLed (others i r)) (sym q) tt
  led es right (itself q) = subst (λ (r : List Filled). AllLed (others i r)) (sym q) (rw (eq-eqb i i refl) tt)
  led es right (next e es₁ f hs c d w t o q) =
      subst (λ (r : List Filled). AllLed (others i r)) (sym q)
      (by (eqb e.target i) refl (led es₁ (λ g m. right₁ g (inr m)) c))
    where
      right₁ : (g : Filled) → In g (e ∷ es₁) → Right net i g.target g.distance g.hop
      right₁ g m = right g (subst (λ (r : List Filled). In g r) (sym q) m)

      other : e.hop ≢ i
      other z = va.apart i e.hop w.starts.len w.starts.arc (sym z)

      first_hop : ((e.target ≡ i) × (e.hop ≡ 0)) ⊎ ((e.target ≢ i) × FirstHop net i e.target e.distance e.hop) → e.target ≢ i
          → FirstHop net i e.target e.distance e.hop
      first_hop (inl a) ne = absurd (ne a.0)
      first_hop (inr a) ne = a.1

      leads : e.target ≢ i → (f.target ≡ e.hop) ⊎ Has e.hop hs → (e.hop ≡ e.target) ⊎ Direct e.hop (others i es₁)
      leads ne (inl z) = inl (sym z ∙ t)
      leads ne (inr h) =
          let g = has_entry e.hop es₁ (o e.hop h) in
          let re = right₁ e (inl refl) in
          let rg : Right net i e.hop g.0.distance g.0.hop =
          subst (λ (k : ℕ). Right net i k g.0.distance g.0.hop) (sym g.2) (right₁ g.0 (inr g.1)) in
          inr (direct_others e.hop other es₁ g.0 g.1 (sym g.2)
          (straight e.target e.distance e.hop g.0.distance g.0.hop (first_hop re.hop ne) re rg))

      by : (b : Bool) → eqb e.target i ≡ b → AllLed (others i es₁) → AllLed (cond b (others i es₁) (e ∷ others i es₁))
      by true z ih = ih
      by false z ih = (leads (eqb-false e.target i z) (canon_own net e.hop f hs d), ih)

  pub records_led : (nodes : ℕ → Node) → Lawful net nodes → AllLed (records_of i (nodes i))
  records_led nodes lawful = led (nodes i).table (lawful.ok i).right (canon_of net va nodes lawful i)
