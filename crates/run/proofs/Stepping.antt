-- A step byte, as the code does it, is the method's step; and after it all parts are at rest again.
use mathlib.Core.Path.{◌≡◌, refl, sym, ap, subst, ◌∙◌}
use mathlib.Core.Logic.{inl, inr}
use mathlib.Core.Bool.{Bool, true, false}
use mathlib.Core.Option.{none, some}
use mathlib.Core.List.{List, ◌++◌}
use Prim.Native.Nat.{ℕ, zero, suc, ◌+◌, ◌-◌, ◌≤◌, ◌<◌}
use native.Mathlib.Omega.{arith}
use native.Mathlib.Numerals.{add-one}
use lib.Dec.{eqb}
use lib.ListN.{length, get_elem?}
use borrow.Author.Tests.{lt-ltb, le-ltb, le-leb, lt-leb, eqb-true, eqb-false}
use Rattle.method.specs.Network.{IsNode, IsArc}
use Rattle.method.specs.Message.{Msg, item, oldest}
use Rattle.method.specs.Steps.{State, sents, Step, deliver, byte_step, Named, node, arc, nothing, names, Kind, unknown, Stepped}
use Rattle.method.specs.Steps.{carried_out}
use Rattle.method.specs.Steps.{step}
use Rattle.method.specs.Invariant.{Inv, Spread}
use Rattle.method.proofs.Oldest.{oldest_grow}
use Rattle.method.proofs.Runs.{Onward, step_ok}
use Rattle.method.proofs.Always.{step_keeps}
use Rattle.method.proofs.Tight.{spread}
use Rattle.network.specs.declared.Layout.{Layout}
use Rattle.network.specs.Layout.{len_at, arc_at, arcs_from, net_of, Laid}
use Rattle.run_cells.specs.Part.{Part, table_size, sum_of, site_of, state_of}
use Rattle.run_cells.specs.Caches.{Caches}
use Rattle.run_node.specs.Working.{WaitsFor}
use Rattle.run.specs.Resting.{Resting, Acted, Done}

-- other nodes have sent more: what a part holds of its arcs stays
grown_caches : (g : Layout) (j : ℕ) (ss ss' : ℕ → List Msg) (f : Part) → ((h : ℕ) → (e : List Msg) × (ss' h ≡ e ++ ss h))
    → ((h : ℕ) → (site_of f).taken h ≤ length (ss h)) → Caches g j ss f → Caches g j ss' f
grown_caches g j ss ss' f grows le c =
    record {
      last = c.last;
      marks = c.marks;
      sums =
          λ h lt. c.sums h lt
          ∙ ap (λ (t : List Msg). sum_of (len_at g j h) (item t))
          (sym (ap (oldest ((site_of f).taken h)) (grows h).1 ∙ oldest_grow ((site_of f).taken h) (grows h).0 (ss h) (le h)));
    }

-- an arc by its number
arc_some : (g : Layout) (a k n : ℕ) → n < k → get_elem? (arcs_from g a k) n ≡ some (arc_at g (a + n))
arc_some g a zero n lt = absurd (omega arith)
arc_some g a (suc k) zero lt = let e : a ≡ a + 0 = omega arith in ap (λ (x : ℕ). some (arc_at g x)) e
arc_some g a (suc k) (suc n) lt =
    let e : suc a + n ≡ a + suc n = omega arith in
    arc_some g (suc a) k n (omega arith) ∙ ap (λ (x : ℕ). some (arc_at g x)) e

arc_none : (g : Layout) (a k n : ℕ) → k ≤ n → get_elem? (arcs_from g a k) n ≡ none
arc_none g a zero n le = refl
arc_none g a (suc k) zero le = absurd (omega arith)
arc_none g a (suc k) (suc n) le = arc_none g (suc a) k n (omega arith)

arc_in : (g : Layout) (a k n : ℕ) → n < k → IsArc (arcs_from g a k) (arc_at g (a + n)).tail (arc_at g (a + n)).head (arc_at g (a + n)).len
arc_in g a zero n lt = absurd (omega arith)
arc_in g a (suc k) zero lt =
    let e : a ≡ a + 0 = omega arith in
    inl (ap (λ (x : ℕ). (arc_at g x).tail) e, ap (λ (x : ℕ). (arc_at g x).head) e, ap (λ (x : ℕ). (arc_at g x).len) e)
arc_in g a (suc k) (suc n) lt =
    let e : suc a + n ≡ a + suc n = omega arith in
    inr (subst (λ (x : ℕ). IsArc (arcs_from g (suc a) k) (arc_at g x).tail (arc_at g x).head (arc_at g x).len) e
    (arc_in g (suc a) k n (omega arith)))

-- its tail and head are nodes
pub ends_are_nodes : (g : Layout) → Laid g → (k : ℕ) → k < g.count
    → IsNode g.nodes (arc_at g k).tail × IsNode g.nodes (arc_at g k).head
ends_are_nodes g la k lt =
    let e : 0 + k ≡ k = omega arith in
    let a = subst (λ (x : ℕ). IsArc (net_of g).arcs (arc_at g x).tail (arc_at g x).head (arc_at g x).len) e
    (arc_in g 0 g.count k lt) in
    (la.accepted.valid.tails _ _ _ a, la.accepted.valid.heads _ _ _ a)

-- what a byte names
module _ (g : Layout) (b : ℕ) where
  pub names_node : b < 16 → b < g.nodes → names (net_of g) (byte_step b) ≡ node (b + 1)
  names_node l n = rw (le-leb b 15 (omega arith), add-one b, lt-ltb b g.nodes n)

  pub names_no_node : b < 16 → g.nodes ≤ b → names (net_of g) (byte_step b) ≡ nothing
  names_no_node l n = rw (le-leb b 15 (omega arith), add-one b, le-ltb b g.nodes n)

  delivery : 16 ≤ b → byte_step b ≡ deliver (suc (b - 16))
  delivery l = let e : b - 15 ≡ suc (b - 16) = omega arith in rw (lt-leb b 15 (omega arith), e)

  pub names_arc : 16 ≤ b → b - 16 < g.count
      → names (net_of g) (byte_step b) ≡ arc (arc_at g (b - 16)).tail (arc_at g (b - 16)).head
  names_arc l n =
      let e : 0 + (b - 16) ≡ b - 16 = omega arith in
      rw (delivery l, arc_some g 0 g.count (b - 16) n) (ap (λ (x : ℕ). arc (arc_at g x).tail (arc_at g x).head) e)

  pub names_no_arc : 16 ≤ b → g.count ≤ b - 16 → names (net_of g) (byte_step b) ≡ nothing
  names_no_arc l n = rw (delivery l, arc_none g 0 g.count (b - 16) n)

module _ (g : Layout) (la : Laid g) (m : ℕ → Part) (re : Resting g m) (b : Step) where
  -- all parts are at rest after an act of node i
  pub acted_did : (o : Named) → names (net_of g) b ≡ o → (i : ℕ) (n : ℕ → Part) (k : Kind)
      → Acted g m i n k (carried_out (net_of g) (state_of m) o)
      → Done g n k (step (net_of g) (state_of m) b)
  unfolding step
  acted_did o eo i n k a₀ = record {
    kind = a.kind;
    state = a.state;
    rest = record { inv = inv; spread = spreads; caches = λ j lt. caches j lt (eqb j i) refl; waits = λ j. waits j (eqb j i) refl };
  }
    where
      w : Stepped
      w = carried_out (net_of g) (state_of m) (names (net_of g) b)

      a : Acted g m i n k (carried_out (net_of g) (state_of m) (names (net_of g) b))
      a = subst (λ (x : Named). Acted g m i n k (carried_out (net_of g) (state_of m) x)) (sym eo) a₀

      inv : Inv (net_of g) (state_of n)
      inv = subst (λ (st : State). Inv (net_of g) st) (sym a.state) (step_ok (net_of g) la.accepted.valid (state_of m) re.inv b).0

      spreads : (j : ℕ) → Spread (net_of g) j (state_of n j).node
      spreads j =
          subst (λ (st : State). Spread (net_of g) j (st j).node) (sym a.state)
          (step_keeps (net_of g) la.accepted.valid (Spread (net_of g)) (spread (net_of g) la.accepted.valid) (state_of m) re.inv
          re.spread b j)

      onward : Onward (state_of m) (state_of n)
      onward = subst (λ (st : State). Onward (state_of m) st) (sym a.state)
          (step_ok (net_of g) la.accepted.valid (state_of m) re.inv b).1

      grows : (h : ℕ) → (e : List Msg) × (sents (state_of n) h ≡ e ++ sents (state_of m) h)
      grows h = (onward h).node.more_sent

      caches : (j : ℕ) → (1 ≤ j) × (j < table_size) → (t : Bool) → eqb j i ≡ t → Caches g j (sents (state_of n)) (n j)
      caches j lt true e =
          subst (λ (x : ℕ). Caches g x (sents (state_of n)) (n x)) (sym (eqb-true j i e))
          (grown_caches g i (sents (state_of m)) (sents (state_of n)) (n i) grows a.taken_le a.caches)
      caches j lt false e =
          subst (λ (f : Part). Caches g j (sents (state_of n)) f) (sym (a.there j (eqb-false j i e)))
          (grown_caches g j (sents (state_of m)) (sents (state_of n)) (m j) grows
          (λ h. omega (arith, (re.inv j).site.taken_le h, (re.inv j).site.delivered_le h)) (re.caches j lt))

      waits : (j : ℕ) (t : Bool) → eqb j i ≡ t → WaitsFor (n j)
      waits j true e = subst (λ (x : ℕ). WaitsFor (n x)) (sym (eqb-true j i e)) a.waits
      waits j false e = subst (λ (f : Part). WaitsFor f) (sym (a.there j (eqb-false j i e))) (re.waits j)

  pub nothing_did : names (net_of g) b ≡ nothing → Done g m unknown (step (net_of g) (state_of m) b)
  unfolding step
  nothing_did e =
      subst (λ (o : Named). Done g m unknown (carried_out (net_of g) (state_of m) o)) (sym e)
      (record { kind = refl; state = refl; rest = re })
