-- The least of the sums is rule 1's choice, and rule 2's test is one comparison.
use mathlib.Core.Path.{◌≡◌, refl, sym, ap, subst, ◌∙◌}
use mathlib.Core.Logic.{◌⊎◌, inl, inr, ◌≢◌}
use mathlib.Core.Bool.{Bool, true, false, cond}
use mathlib.Core.Option.{Option, none, some}
use mathlib.Core.List.{List}
use Prim.Native.Nat.{ℕ, zero, suc, ◌+◌, ◌≤◌, ◌<◌}
use native.Mathlib.Nat.{le_of_eq}
use native.Mathlib.Omega.{arith}
use lib.Dec.{eqb}
use lib.ListN.{get_or}
use borrow.Author.Tests.{lt-ltb, eqb-true, eqb-false, ne_eqb}
use Rattle.method.specs.Network.{IsNode, IsArc}
use Rattle.method.specs.Message.{Msg, Item, finite, infinite, last_len, item}
use Rattle.method.specs.Rules.{Choice, rule₁, stop, rests, rule₂, to₁, to₃}
use Rattle.method.specs.Work.{heard, next, turn_at}
use Rattle.method.proofs.Choosing.{Before, Chosen, rule₁_ok}
use Rattle.method.proofs.Sent.{item_last_len}
use Rattle.method.proofs.Acts.{floor}
use Rattle.method.proofs.Oldest.{good_oldest}
use Rattle.method.proofs.Again.{Held}
use Rattle.network.specs.declared.Layout.{Layout}
use Rattle.network.specs.Layout.{len_at, arc_at, arcs_from, net_of, Laid}
use Rattle.network.proofs.WithArc.{arc_len}
use Rattle.run_cells.specs.Part.{Part, table_size, lp_at, sums_at, no_sum, item_sum, node_of, site_of}
use Rattle.run_node.specs.Rules.{least}
use Rattle.run_node.specs.Working.{Ready}
use Rattle.run_node.proofs.Least.{least_none, least_is}
use Rattle.run_node.proofs.Limits.{i_low, lp_low, item_low}

-- an arc's length is the table's
given_len : (g : Layout) (a k i j l : ℕ) → IsArc (arcs_from g a k) i j l → l ≡ len_at g i j
given_len g a zero i j l m = absurd m
given_len g a (suc k) i j l (inl q) =
    sym q.2 ∙ arc_len g (get_or g.sites a 0) ∙ ap (λ (x : ℕ). len_at g x (arc_at g a).head) q.0
    ∙ ap (λ (x : ℕ). len_at g i x) q.1
given_len g a (suc k) i j l (inr m) = given_len g (suc a) k i j l m

module _ (g : Layout) (la : Laid g) (ss : ℕ → List Msg) (m : ℕ → Part) (i : ℕ) (rd : Ready g ss m i) where
  abbrev items : ℕ → Item
  items h = item (heard ss (site_of (m i)) h)

  abbrev choice : Option Choice
  choice = rule₁ (net_of g).rank i items (net_of g).arcs

  pub arc_length : (j l : ℕ) → IsArc (net_of g).arcs i j l → (l ≡ len_at g i j) × (l ≤ 15)
  arc_length j l a = (
    given_len g 0 (g.count) i j l a,
    omega (arith, la.accepted.valid.short i j l a, la.accepted.sizes.lengths.1),
  )

  -- the sum in an arc's place
  arc_sum : (j l v : ℕ) → IsArc (net_of g).arcs i j l → items j ≡ finite v → (m i (sums_at + j) ≡ l + v) × (l + v ≤ no_sum)
  arc_sum j l v a e =
      let at = la.accepted.valid.heads i j l a in
      let q = arc_length j l a in
      let ne : len_at g i j ≢ 255 = λ z. omega arith in (
        rd.caches.sums j (omega (arith, at.1, la.accepted.sizes.nodes.1)) ∙ rw (ne_eqb (len_at g i j) 255 ne, e, ← q.0),
        omega (arith, item_low g la ss m i rd j v at e),
      )

  -- no arc, or one whose item is infinite, has none
  no_sum_lem : (h : ℕ) → h < table_size → ((l : ℕ) → IsArc (net_of g).arcs i h l → items h ≡ infinite) → m i (sums_at + h) ≡ no_sum
  no_sum_lem h lt none_yet = rd.caches.sums h lt ∙ go (eqb (len_at g i h) 255) refl
    where
      go : (b : Bool) → eqb (len_at g i h) 255 ≡ b → cond b no_sum (item_sum (len_at g i h) (items h)) ≡ no_sum
      go true e = refl
      go false e = ap (item_sum (len_at g i h))
          (none_yet (len_at g i h) (la.listed i h (i_low g la ss m i rd) lt (eqb-false (len_at g i h) 255 e)))

  -- no sum is more than none
  sum_most : (h : ℕ) → h < table_size → m i (sums_at + h) ≤ no_sum
  sum_most h lt = go (eqb (len_at g i h) 255) refl (items h) refl
    where
      go : (b : Bool) → eqb (len_at g i h) 255 ≡ b → (t : Item) → items h ≡ t → m i (sums_at + h) ≤ no_sum
      go true e t et = le_of_eq (rd.caches.sums h lt ∙ ap (λ (b : Bool). cond b no_sum (item_sum (len_at g i h) (items h))) e)
      go false e infinite et = le_of_eq (no_sum_lem h lt (λ l a. et))
      go false e (finite v) et = let s = arc_sum h (len_at g i h) v
          (la.listed i h (i_low g la ss m i rd) lt (eqb-false (len_at g i h) 255 e)) et in omega (arith, s.0, s.1)

  -- Against what rule 1 gives: its choice, but for a sum of 255, which may be told from none by no place; then too none is less.
  abbrev Agrees : Option Choice → Type 0
  Agrees none = (least (m i) 16).sum ≡ no_sum
  Agrees (some p) = (least (m i) 16 ≡ p) ⊎ ((p.sum ≡ no_sum) × ((least (m i) 16).sum ≡ no_sum))

  agrees : (o : Option Choice) → Chosen (net_of g).rank items (λ j l. IsArc (net_of g).arcs i j l) o → Agrees o
  agrees none c = least_none (m i) 16 (λ h pos le. no_sum_lem h (omega arith) (λ l a. c h l a))
  agrees (some p) c = decide (eqb p.sum no_sum) refl
    where
      at : IsNode (net_of g).n p.head
      at = la.accepted.valid.heads i p.head c.0.len c.0.arc

      s : (m i (sums_at + p.head) ≡ c.0.len + c.0.now) × (c.0.len + c.0.now ≤ no_sum)
      s = arc_sum p.head c.0.len c.0.now c.0.arc c.0.item_is

      First : ℕ → Type 0
      First h = (p.sum < m i (sums_at + h)) ⊎ ((p.sum ≡ m i (sums_at + h)) × (p.head ≤ h))

      -- where there is a sum, p goes before it
      by : (h x : ℕ) → m i (sums_at + h) ≡ x → Before (net_of g).rank p.sum p.head x h → First h
      by h x e (inl a) = inl (omega arith)
      by h x e (inr a) = inr (omega (arith, a.0), a.1)

      -- a place has none, or p goes before it
      places : (h : ℕ) → h < table_size → (m i (sums_at + h) ≡ no_sum) ⊎ First h
      places h lt = go (eqb (len_at g i h) 255) refl (items h) refl
        where
          go : (b : Bool) → eqb (len_at g i h) 255 ≡ b → (t : Item) → items h ≡ t → (m i (sums_at + h) ≡ no_sum) ⊎ First h
          go true e t et = inl (rd.caches.sums h lt ∙ ap (λ (b : Bool). cond b no_sum (item_sum (len_at g i h) (items h))) e)
          go false e infinite et = inl (no_sum_lem h lt (λ l a. et))
          go false e (finite v) et =
              let a = la.listed i h (i_low g la ss m i rd) lt (eqb-false (len_at g i h) 255 e) in
              inr (by h (len_at g i h + v) (arc_sum h (len_at g i h) v a et).0 (c.1 h (len_at g i h) v a et))

      first : p.sum < no_sum → (h : ℕ) → (m i (sums_at + h) ≡ no_sum) ⊎ First h → First h
      first lt h (inl e) = inl (omega arith)
      first lt h (inr f) = f

      all_none : p.sum ≡ no_sum → (h : ℕ) → m i (sums_at + h) ≤ no_sum → (m i (sums_at + h) ≡ no_sum) ⊎ First h → m i (sums_at + h) ≡ no_sum
      all_none q h le (inl e) = e
      all_none q h le (inr (inl a)) = omega arith
      all_none q h le (inr (inr a)) = omega (arith, a.0)

      decide : (b : Bool) → eqb p.sum no_sum ≡ b → Agrees (some p)
      decide true e =
          let q : p.sum ≡ no_sum = eqb-true p.sum no_sum e in
          inr (q, least_none (m i) 16 (λ h pos le. all_none q h (sum_most h (omega arith)) (places h (omega arith))))
      decide false e =
          let ne : p.sum ≢ no_sum = eqb-false p.sum no_sum e in
          let lt : p.sum < no_sum = omega (arith, s.1, c.0.sum_is) in
          inl (least_is (m i) p at.0 (s.0 ∙ sym c.0.sum_is) lt 16 (omega (arith, at.1, la.accepted.sizes.nodes.1))
          (λ h pos le. first lt h (places h (omega arith))))

  agreed : Agrees choice
  agreed = agrees choice (rule₁_ok (net_of g).rank items i (net_of g).arcs)

  -- Rule 2: it stops
  pub stops : m i lp_at + (net_of g).lmax < (least (m i) 16).sum
      → turn_at (net_of g) i ss to₁ (site_of (m i)) ≡ rests (stop (node_of (m i)))
  unfolding turn_at
  stops lt = go choice agreed
    where
      go : (o : Option Choice) → Agrees o → rule₂ (net_of g).lmax (next ss (site_of (m i))) (node_of (m i)) o ≡ rests (stop (node_of (m i)))
      go none a = refl
      go (some p) (inl a) = rw (lt-ltb (m i lp_at + (net_of g).lmax) p.sum (omega (arith, ap (λ (c : Choice). c.sum) a)))
      go (some p) (inr a) = rw (lt-ltb (m i lp_at + (net_of g).lmax) p.sum (omega (arith, a)))

  -- or it goes on with that arc
  pub holds : (least (m i) 16).sum ≤ m i lp_at + (net_of g).lmax → Held (net_of g) i items (to₃ (least (m i) 16)) (node_of (m i))
  holds le = go choice refl agreed
    where
      go : (o : Option Choice) → choice ≡ o → Agrees o → Held (net_of g) i items (to₃ (least (m i) 16)) (node_of (m i))
      go none e a = absurd (omega (arith, a, lp_low g la ss m i rd))
      go (some p) e (inl a) = (e ∙ ap some (sym a), le)
      go (some p) e (inr a) = absurd (omega (arith, a, lp_low g la ss m i rd))

  -- the chosen arc
  pub record OnArc (p : Choice) : Type 0 where
    pub node : IsNode (net_of g).n p.head
    pub other : p.head ≢ i
    pub len : len_at g i p.head ≤ 15
    pub now : items p.head ≡ finite (last_len (heard ss (site_of (m i)) p.head))
    pub sum : p.sum ≡ len_at g i p.head + last_len (heard ss (site_of (m i)) p.head)
    pub floor : last_len (node_of (m i)).sent ≤ p.sum
    pub least_head : p.head ≡ (least (m i) 16).head

  pub on_arc : (p : Choice) → Held (net_of g) i items (to₃ p) (node_of (m i)) → OnArc p
  on_arc p held =
      let c : Chosen (net_of g).rank items (λ j l. IsArc (net_of g).arcs i j l) (some p) =
      subst (λ (o : Option Choice). Chosen (net_of g).rank items (λ j l. IsArc (net_of g).arcs i j l) o) held.0
      (rule₁_ok (net_of g).rank items i (net_of g).arcs) in
      let q = arc_length p.head c.0.len c.0.arc in
      let last = item_last_len (heard ss (site_of (m i)) p.head) c.0.now c.0.item_is in
      record {
        node = la.accepted.valid.heads i p.head c.0.len c.0.arc;
        other = λ e. la.accepted.valid.apart i p.head c.0.len c.0.arc (sym e);
        len = omega (arith, q);
        now = c.0.item_is ∙ ap finite (sym last);
        sum = omega (arith, c.0.sum_is, q.0, last);
        floor =
            floor (net_of g) i (heard ss (site_of (m i))) (node_of (m i)) rd.site.ok
            (λ j. good_oldest (net_of g).arcs j ((site_of (m i)).taken j) (ss j) (rd.lists j)) rd.up p c;
        least_head = chosen (agrees (some p) c);
      }
    where
      chosen : Agrees (some p) → p.head ≡ (least (m i) 16).head
      chosen (inl e) = sym (ap (λ (x : Choice). x.head) e)
      chosen (inr e) = absurd (omega (arith, e, held.1, lp_low g la ss m i rd))
