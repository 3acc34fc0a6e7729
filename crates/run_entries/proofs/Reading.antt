-- Reading a part: the phase, and an entry by its mark.
use mathlib.Core.Path.{◌≡◌, refl, sym, ap, ap₂, ◌∙◌}
use mathlib.Core.Logic.{◌≢◌}
use mathlib.Core.Bool.{Bool, true, false, cond}
use mathlib.Core.Option.{none}
use mathlib.Core.List.{List}
use Prim.Native.Nat.{ℕ, zero, suc, ◌+◌, ◌-◌, ◌≤◌, ◌<◌}
use native.Mathlib.Omega.{arith}
use lib.Dec.{eqb}
use lib.ListN.{get_or, take, get_or-map}
use Rattle.std.specs.List.{count_by}
use Rattle.std.proofs.lemmas.List.Sums.{count_by_more_yes, count_by_more_no}
use native.Mathlib.Numerals.{add-one}
use borrow.Author.Tests.{eqb-false}
use Rattle.method.specs.Network.{IsNode, Accepted}
use Rattle.method.specs.Marks.{unreachable_mark}
use Rattle.method.specs.Rules.{unstarted, started, stopped}
use Rattle.method.specs.Steps.{State as States, steps, Counts}
use Rattle.method.specs.Entries.{unknown, unreachable, known, find, said, others, entry, records}
use Rattle.method.proofs.Bounded.{never_a_mark}
use Rattle.network.specs.declared.Layout.{Layout}
use Rattle.network.specs.Layout.{net_of}
use Rattle.method.specs.declared.Filled.{Filled as FilledInCode}
use Rattle.run_cells.specs.declared.Phase.{Phase}
use Rattle.run_cells.specs.declared.Phase.TheVariants.{Unstarted, Started, Stopped}
use Rattle.run_cells.specs.declared.Part.{Part as PartInCode}
use Rattle.run_cells.specs.declared.State.{State}
use Rattle.run_cells.proofs.Loads.{distance_is, hop_is, mark_is}
use Rattle.run_cells.proofs.Stored.{blank, Placed, own_part}
use Rattle.run_cells.proofs.Cleared.{nobody}
use Rattle.run.proofs.Phases.{own_phase}
use Rattle.run_cells.specs.Part.{Part, cells, phase_number, entry_most, table_size, phase_at, marks_at, distances_at, hops_at}
use Rattle.run_cells.specs.Part.{phase_named, node_of, state_of}
use Rattle.run_cells.specs.Part.{entry_marked}
use Rattle.run_cells.specs.Caches.{Marks, Readable}
use Rattle.run.specs.Ran.{Ran}
use Rattle.method.specs.Entries.{has_stopped, is_stopped, stopped_to, entry_of}

-- a part that can be read has so many entries
pub marked : (f : Part) (y : ℕ) → y < table_size → Readable f → f (marks_at + y) ≤ entry_most
marked f y lt r = omega (arith, (r.marks y lt).0, r.few)

-- whether it has stopped
abbrev pub stopped_phase : Phase → Bool
stopped_phase Unstarted = false
stopped_phase Started = false
stopped_phase Stopped = true

by_phase : (p : Phase) → stopped_phase p ≡ has_stopped (phase_named (phase_number p))
by_phase Unstarted = refl
by_phase Started = refl
by_phase Stopped = refl

pub stopped_here : (s : State) (i : ℕ) → 1 ≤ i → Placed s i
    → stopped_phase (get_or s.parts (i - 1) blank).phase ≡ is_stopped (state_of (cells s) i)
stopped_here s i pos le =
    by_phase (get_or s.parts (i - 1) blank).phase ∙ sym (ap (λ (p : ℕ). has_stopped (phase_named p)) (own_phase s i pos le))

pub not_stopped : (p : Phase) → (p ≡ Stopped → ⊥) → false ≡ stopped_phase p
not_stopped Unstarted ne = refl
not_stopped Started ne = refl
not_stopped Stopped ne = absurd (ne refl)

-- an entry of its part
pub entry_parts : (s : State) (i k : ℕ) → 1 ≤ i → Placed s i → k < entry_most
    → (cells s i (distances_at + k) ≡ (get_or (get_or s.parts (i - 1) blank).entries k nobody).distance)
    × (cells s i (hops_at + k) ≡ (get_or (get_or s.parts (i - 1) blank).entries k nobody).hop)
entry_parts s i k pos le lt =
    let p = get_or s.parts (i - 1) blank in
    let own = own_part s i blank pos le in (
      ap (λ (f : Part). f (distances_at + k)) own ∙ distance_is p k lt ∙ get_or-map (λ (e : FilledInCode). e.distance) p.entries k nobody,
      ap (λ (f : Part). f (hops_at + k)) own ∙ hop_is p k lt ∙ get_or-map (λ (e : FilledInCode). e.hop) p.entries k nobody,
    )

pub own_mark : (s : State) (i y : ℕ) → 1 ≤ i → Placed s i → y < table_size
    → cells s i (marks_at + y) ≡ get_or (get_or s.parts (i - 1) blank).marks y 0
own_mark s i y pos le lt =
    ap (λ (f : Part). f (marks_at + y)) (own_part s i blank pos le) ∙ mark_is (get_or s.parts (i - 1) blank) y lt

-- how many of the first n
pub counted : (s : State) (n : ℕ) → Placed s n
    → count_by (λ (p : PartInCode). stopped_phase p.phase) (take n s.parts) ≡ stopped_to (state_of (cells s)) n
counted s zero le = refl
counted s (suc k) le = go (stopped_phase (get_or s.parts k blank).phase) refl (counted s k (omega (arith, le)))
  where
    here : stopped_phase (get_or s.parts k blank).phase ≡ is_stopped (state_of (cells s) (suc k))
    here =
        let e : suc k - 1 ≡ k = omega arith in
        ap (λ (n : ℕ). stopped_phase (get_or s.parts n blank).phase) (sym e) ∙ stopped_here s (suc k) (omega arith) le

    go : (b : Bool) → stopped_phase (get_or s.parts k blank).phase ≡ b
        → count_by (λ (p : PartInCode). stopped_phase p.phase) (take k s.parts) ≡ stopped_to (state_of (cells s)) k
        → count_by (λ (p : PartInCode). stopped_phase p.phase) (take (suc k) s.parts) ≡ stopped_to (state_of (cells s)) (suc k)
    go true q rest =
        let one : ◌≡◌ {A = ℕ} (cond (is_stopped (state_of (cells s) (suc k))) 1 0) 1 =
        ap {B = ℕ} (λ (t : Bool). cond t 1 0) (sym here ∙ q) in
        ap (λ (n : ℕ). count_by (λ (p : PartInCode). stopped_phase p.phase) (take n s.parts)) (sym (add-one k))
        ∙ count_by_more_yes (λ (p : PartInCode). stopped_phase p.phase) s.parts k blank (omega (arith, le)) q ∙ omega (arith, one, rest)
    go false q rest =
        let none : ◌≡◌ {A = ℕ} (cond (is_stopped (state_of (cells s) (suc k))) 1 0) 0 =
        ap {B = ℕ} (λ (t : Bool). cond t 1 0) (sym here ∙ q) in
        ap (λ (n : ℕ). count_by (λ (p : PartInCode). stopped_phase p.phase) (take n s.parts)) (sym (add-one k))
        ∙ count_by_more_no (λ (p : PartInCode). stopped_phase p.phase) s.parts k blank (omega (arith, le)) q ∙ omega (arith, none, rest)

-- an entry by its mark
module _ (f : Part) (y : ℕ) (lt : y < table_size) (marks : Marks f) where
  found : (k : ℕ) → f (marks_at + y) ≡ k → find y (node_of f).table ≡ entry_marked f k
  found k is = (marks y lt).1 ∙ ap (entry_marked f) is

  pub known_entry : (k d h : ℕ) → f (marks_at + y) ≡ k → k ≢ 0 → f (distances_at + (k - 1)) ≡ d → f (hops_at + (k - 1)) ≡ h
      → known d h ≡ entry_of (node_of f) y
  known_entry zero d h is ne ed eh = absurd (ne refl)
  known_entry (suc k) d h is ne ed eh =
      let e : suc k - 1 ≡ k = omega arith in
      sym (ap (said (node_of f).phase) (found (suc k) is) ∙ ap (λ (j : ℕ). known (f (distances_at + j)) (f (hops_at + j))) (sym e)
      ∙ ap₂ known ed eh)

  module _ (z : f (marks_at + y) ≡ 0) where
    unfilled : entry_of (node_of f) y ≡ said (node_of f).phase none
    unfilled = ap (said (node_of f).phase) (found 0 z)

    pub stopped_entry : f phase_at ≡ 2 → unreachable ≡ entry_of (node_of f) y
    stopped_entry e = sym (unfilled ∙ ap (λ (p : ℕ). said (phase_named p) none) e)

    pub other_entry : f phase_at ≤ 1 → unknown ≡ entry_of (node_of f) y
    other_entry le = sym (unfilled ∙ go (eqb (f phase_at) 0) refl (eqb (f phase_at) 1) refl)
      where
        go : (a : Bool) → eqb (f phase_at) 0 ≡ a → (b : Bool) → eqb (f phase_at) 1 ≡ b
            → said (cond a unstarted (cond b started stopped)) none ≡ unknown
        go true ea b eb = refl
        go false ea true eb = refl
        go false ea false eb =
            let n0 = eqb-false (f phase_at) 0 ea in
            let n1 = eqb-false (f phase_at) 1 eb in
            absurd (omega arith)

-- after a run, this is what the method says
module _ (g : Layout) (bs : List ℕ) (m : ℕ → Part) (c : Counts) (ran : Ran g bs m c) (i : ℕ) where
  pub ran_entry : (y : ℕ) → entry_of (state_of m i).node y ≡ entry (net_of g) (steps bs) i y
  ran_entry y = ap (λ (st : States). entry_of (st i).node y) ran.state

  -- a distance is no mark
  pub no_mark : Accepted (net_of g) → IsNode (net_of g).n i → (y d h : ℕ) → entry_of (state_of m i).node y ≡ known d h
      → d < unreachable_mark
  no_mark acc at y d h e = never_a_mark (net_of g) acc.valid (steps bs) acc.sizes i y d h at (sym (ran_entry y) ∙ e)

  pub ran_records : others i (state_of m i).node.table ≡ records (net_of g) (steps bs) i
  ran_records = ap (λ (st : States). others i (st i).node.table) ran.state
