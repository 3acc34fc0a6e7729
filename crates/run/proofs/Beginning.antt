-- The parts as `clear` leaves it: the state before the first step, at rest.
use mathlib.Core.Path.{◌≡◌, refl, sym, ap, subst, ◌∙◌, fun_ext}
use mathlib.Core.Bool.{Bool, true, false, cond}
use mathlib.Core.List.{List, []}
use Prim.Native.Nat.{ℕ, zero, suc, ◌+◌, ◌-◌, ◌≤◌, ◌<◌}
use native.Mathlib.Omega.{arith}
use lib.Dec.{ltb}
use lib.ListN.{drop}
use borrow.Author.Tests.{ltb-true, ltb-false, lt-ltb, le-ltb}
use Rattle.method.specs.Message.{Msg, finite, last_len, item, oldest}
use Rattle.method.specs.Work.{Site}
use Rattle.method.specs.Steps.{State, sents, fresh}
use Rattle.method.specs.Entries.{find}
use Rattle.method.specs.Invariant.{Inv, Spread}
use Rattle.method.proofs.Runs.{fresh_ok}
use Rattle.method.proofs.Tight.{spread}
use Rattle.network.specs.declared.Layout.{Layout}
use Rattle.network.specs.Layout.{len_at, net_of, Laid}
use Rattle.run_cells.specs.declared.State.{State as StateInCode}
use Rattle.run_cells.specs.Part.{Part, table_size, nodes_most, phase_at, sent_count, entry_count, lp_at, last_at, delivered_at, taken_at}
use Rattle.run_cells.specs.Part.{sums_at}
use Rattle.run_cells.specs.Part.{marks_at, targets_at, cells, row, sum_of, site_of, state_of, entry_marked}
use Rattle.run_cells.specs.Stores.{zeroed, with_sums, cleared}
use Rattle.run_cells.specs.Caches.{Caches}
use Rattle.run.specs.Resting.{Resting}

nothing_old : (t : ℕ) → oldest t [] ≡ []
unfolding oldest
nothing_old t = let e : 0 - t ≡ 0 = omega arith in ap (λ (k : ℕ). drop k []) e

nobody : (s : StateInCode) (j o : ℕ) → nodes_most ≤ j → cells s (suc j) o ≡ 0
nobody s j o le = rw (le-ltb j nodes_most le)

module _ (g : Layout) (l : StateInCode) (m : ℕ → Part) (e : m ≡ cleared g (cells l) nodes_most) where
  abbrev new : ℕ → Part
  new j = with_sums g j (zeroed (cells l j) targets_at) table_size

  part_is : (j : ℕ) → (1 ≤ j) × (j < table_size) → m j ≡ new j
  part_is zero lt = absurd (omega (arith, lt))
  part_is (suc j) lt =
      ap (λ (k : ℕ → Part). k (suc j)) e ∙ ap (λ (b : Bool). cond b (new (suc j)) (cells l (suc j)))
      (lt-ltb j nodes_most (omega (arith, lt)))

  new_zero : (j o : ℕ) → o < sums_at → new j o ≡ 0
  new_zero j o lt = rw (lt-ltb o sums_at lt, lt-ltb o targets_at (omega arith))

  -- no part shows anything
  blank : (j o : ℕ) → o < sums_at → m j o ≡ 0
  blank zero o lt = ap (λ (k : ℕ → Part). k zero o) e
  blank (suc j) o lt = go (ltb j nodes_most) refl
    where
      go : (b : Bool) → ltb j nodes_most ≡ b → m (suc j) o ≡ 0
      go true q =
          let lt-node = ltb-true j nodes_most q in
          ap (λ (f : Part). f o) (part_is (suc j) (omega arith)) ∙ new_zero (suc j) o lt
      go false q =
          ap (λ (k : ℕ → Part). k (suc j) o) e ∙ ap (λ (b : Bool). cond b (new (suc j)) (cells l (suc j)) o) q
          ∙ nobody l j o (ltb-false j nodes_most q)

  new_mark : (j y : ℕ) → y < table_size → new j (marks_at + y) ≡ 0
  new_mark j y lt = rw (
    le-ltb (marks_at + y) sums_at (omega arith),
    le-ltb (marks_at + y) (sums_at + table_size) (omega arith),
    lt-ltb (marks_at + y) targets_at (omega arith),
  )

  new_sum : (j h : ℕ) → h < table_size → new j (sums_at + h) ≡ sum_of (len_at g j h) (finite 0)
  new_sum j h lt =
      let q : (sums_at + h) - sums_at ≡ h = omega arith in
      rw (le-ltb (sums_at + h) sums_at (omega arith), lt-ltb (sums_at + h) (sums_at + table_size) (omega arith), q)

  zero_row : (f : Part) (base : ℕ) → ((h : ℕ) → h < table_size → f (base + h) ≡ 0) → row f base ≡ (λ h. 0)
  zero_row f base z = fun_ext (λ h. go h (ltb h table_size) refl)
    where
      go : (h : ℕ) (b : Bool) → ltb h table_size ≡ b → cond b (f (base + h)) 0 ≡ 0
      go h true q = z h (ltb-true h table_size q)
      go h false q = refl

  zero_site : (f : Part) → ((o : ℕ) → o < sums_at → f o ≡ 0) → site_of f ≡ fresh 0
  zero_site f z =
      rw (
        z phase_at (omega arith),
        z sent_count (omega arith),
        z entry_count (omega arith),
        z lp_at (omega arith),
        zero_row f delivered_at
            (λ h lt. z (delivered_at + h) (omega arith)),
        zero_row f taken_at (λ h lt. z (taken_at + h) (omega arith)),
      )

  sites : (j : ℕ) → site_of (m j) ≡ fresh j
  sites j = zero_site (m j) (blank j)

  pub fresh_state : state_of m ≡ fresh
  fresh_state = fun_ext sites

  caches : (j : ℕ) → (1 ≤ j) × (j < table_size) → Caches g j (sents (state_of m)) (m j)
  unfolding oldest
  caches j lt =
      let p = part_is j lt in
      let at : (o : ℕ) → m j o ≡ new j o = λ o. ap (λ (f : Part). f o) p in
      record {
        last = at last_at ∙ new_zero j last_at (omega arith) ∙ sym (ap (λ (s : Site). last_len s.node.sent) (sites j));
        marks =
            λ y l. (
              omega (arith, at (marks_at + y), new_mark j y l),
              ap (λ (s : Site). find y s.node.table) (sites j) ∙ sym (ap (entry_marked (m j)) (at (marks_at + y) ∙ new_mark j y l)),
            );
        sums =
            λ h l. at (sums_at + h) ∙ new_sum j h l
            ∙ ap (λ (t : List Msg). sum_of (len_at g j h) (item t))
            (sym (ap (oldest ((site_of (m j)).taken h)) (ap (λ (s : Site). s.node.sent) (sites h))
            ∙ nothing_old ((site_of (m j)).taken h)));
      }

  pub begins : Laid g → Resting g m
  begins la =
      record {
        inv = subst (λ (st : State). Inv (net_of g) st) (sym fresh_state) (fresh_ok (net_of g) la.accepted.valid);
        spread = λ j. subst (λ (st : State). Spread (net_of g) j (st j).node) (sym fresh_state)
            ((spread (net_of g) la.accepted.valid).at_first j);
        caches = caches;
        waits = λ j up. absurd (omega (arith, blank j phase_at (omega arith)));
      }
