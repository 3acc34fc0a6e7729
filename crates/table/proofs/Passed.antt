-- Records that pass refusal 17: its rows are clear of them, they are fewer than the nodes, and their distances are small.
use mathlib.Core.Path.{◌≡◌, refl, ap}
use mathlib.Core.Logic.{inl, inr, ◌≢◌}
use mathlib.Core.List.{List, [], ◌∷◌, ◌++◌}
use mathlib.Core.Bool.{false, ◌&&◌}
use Prim.Native.Nat.{ℕ, suc, ◌-◌, ◌*◌, ◌≤◌, ◌<◌}
use native.Mathlib.Omega.{arith}
use lib.Dec.{ltb, eqb}
use lib.ListN.{length}
use borrow.Author.Tests.{le-ltb, ltb-false, eq-eqb, ne_eqb, eqb-false}
use Rattle.method.specs.Network.{IsNode}
use Rattle.method.specs.Rules.{Filled, has}
use Rattle.method.specs.Entries.{last_distance, AllSound}
use Rattle.method.specs.Distinct.{Among}
use Rattle.method.specs.Invariant.{In, targets, Has}
use Rattle.refusal.specs.Rows.{Clear}
use Rattle.refusal.proofs.Rows.{◌next◌, both_clear}
use Rattle.refusal.proofs.Tests.{neither}
use Rattle.method.proofs.Numbers.{few}
use Rattle.method.proofs.Table.{Once, targets_length, has_false}
use Rattle.table.specs.declared.Header.{Header}
use Rattle.table.specs.File.{Form}
use Rattle.table.specs.Reader.{field_rows, record_rows, records_rows}
use Rattle.table.specs.Passed.{Next, Passed}

-- the method's records pass
pub all_passed : (h : Header) (es : List Filled) → AllSound h.n h.lmax h.own es
    → ((g : List Filled) (e : Filled) → es ≡ g ++ (e ∷ []) → 1 ≤ e.distance) → Passed h es
all_passed h [] s first = tt
all_passed h (e ∷ es) s first = (
  record { sound = s.0; first = λ z. first [] e (ap (λ (r : List Filled). e ∷ r) (none es z)) },
  all_passed h es s.1
      (λ g x q. first (e ∷ g) x (ap (λ (r : List Filled). e ∷ r) q)),
)
  where
    none : (r : List Filled) → length r ≡ 0 → r ≡ []
    none [] z = refl
    none (x ∷ r) z = absurd (omega arith)

-- refusal 17's rows are clear exactly of a record that goes on

pub next_clear : (f : Form) (h : Header) (seen : List Filled) (e : Filled) → Next h seen e → Clear (record_rows f h seen e)
unfolding field_rows
next_clear f h seen e x =
    let s = x.sound in
    (rw (le-ltb h.n e.target s.target.1, ne_eqb e.target h.own s.other) s.new)
    next (rw (le-ltb h.n e.hop s.hop.1, ne_eqb e.hop h.own s.hop_other))
    next (rw (le-ltb h.lmax (e.distance - last_distance seen) (omega (arith, s.slowly))) (rises seen x.first))
    next tt
  where
    rises : (es : List Filled) → (length es ≡ 0 → 1 ≤ e.distance) → eqb (length es) 0 && eqb (e.distance - last_distance es) 0 ≡ false
    rises [] g = ne_eqb (e.distance - 0) 0 (omega (arith, g refl))
    rises (x ∷ es) g = rw (ne_eqb (suc (length es)) 0 (omega arith))

pub goes_on : (f : Form) (h : Header) (seen : List Filled) (e : Filled) → 1 ≤ e.target → 1 ≤ e.hop → last_distance seen ≤ e.distance
    → Clear (record_rows f h seen e) → Next h seen e
unfolding field_rows
goes_on f h seen e a b c w =
    let t = neither _ (has e.target seen) w.0 in
    let t₁ = neither (ltb h.n e.target) _ t.0 in
    let o = neither (ltb h.n e.hop) _ w.1.0 in
    let d = neither (ltb h.lmax (e.distance - last_distance seen)) _ w.1.1.0 in
    let slow = ltb-false h.lmax (e.distance - last_distance seen) d.0 in
    record {
      sound =
          record {
            target = (a, ltb-false h.n e.target t₁.0);
            other = eqb-false e.target h.own t₁.1;
            new = t.1;
            hop = (b, ltb-false h.n e.hop o.0);
            hop_other = eqb-false e.hop h.own o.1;
            rises = c;
            slowly = omega arith;
          };
      first = λ z. rises z d.1;
    }
  where
    rises : length seen ≡ 0 → eqb (length seen) 0 && eqb (e.distance - last_distance seen) 0 ≡ false → 1 ≤ e.distance
    rises z t =
        let q : eqb (e.distance - last_distance seen) 0 ≡ false = rw (eq-eqb (length seen) 0 z) at t in
        let n : e.distance - last_distance seen ≡ 0 → ⊥ = eqb-false (e.distance - last_distance seen) 0 q in
        omega arith

pub passed_clear : (f : Form) (h : Header) (es : List Filled) → Passed h es → Clear (records_rows f h es)
unfolding records_rows
passed_clear f h [] p = tt
passed_clear f h (e ∷ es) p = both_clear (records_rows f h es) (record_rows f h es e) (passed_clear f h es p.1)
    (next_clear f h es e p.0)

-- no target twice, none is the node itself: fewer records than nodes

pub passed_once : (h : Header) (es : List Filled) → Passed h es → Once es
passed_once h [] p = tt
passed_once h (e ∷ es) p = (has_false e.target es p.0.sound.new, passed_once h es p.1)

pub passed_nodes : (h : Header) (es : List Filled) → Passed h es → (y : ℕ) → Has y es → IsNode h.n y × (y ≢ h.own)
passed_nodes h [] p y x'' = elim x'' [ ]
passed_nodes h (e ∷ es) p y (inl q) = rw q (p.0.sound.target, p.0.sound.other)
passed_nodes h (e ∷ es) p y (inr m) = passed_nodes h es p.1 y m

pub passed_hop : (h : Header) (es : List Filled) → Passed h es → (e : Filled) → In e es → IsNode h.n e.hop
passed_hop h [] p e x'' = elim x'' [ ]
passed_hop h (x ∷ es) p e (inl q) = rw q p.0.sound.hop
passed_hop h (x ∷ es) p e (inr m) = passed_hop h es p.1 e m

pub few_records : (h : Header) → IsNode h.n h.own → (es : List Filled) → Passed h es → length es < h.n
few_records h own es p =
    omega (
      arith,
      targets_length es,
      few h.n (h.own ∷ targets es) (λ m. (passed_nodes h es p h.own m).1 refl, passed_once h es p)
          node,
    )
  where
    node : (y : ℕ) → Among y (h.own ∷ targets es) → IsNode h.n y
    node y (inl q) = rw q own
    node y (inr m) = (passed_nodes h es p y m).0

-- where LMAX has 4 bits, no record is more than 15 further than the one before it

pub last_distance_lem : (h : Header) (es : List Filled) → Passed h es → h.lmax < 16 → last_distance es ≤ 15 * length es
last_distance_lem h [] p l = omega arith
last_distance_lem h (e ∷ es) p l = omega (arith, p.0.sound.slowly, last_distance_lem h es p.1 l)

pub passed_distance : (h : Header) (es : List Filled) → Passed h es → h.lmax < 16 → (e : Filled) → In e es → e.distance ≤ 15 * length es
passed_distance h [] p l e x3 = elim x3 [ ]
passed_distance h (x ∷ es) p l e (inl q) = rw q (last_distance_lem h (x ∷ es) p l)
passed_distance h (x ∷ es) p l e (inr m) = omega (arith, passed_distance h es p.1 l e m)
