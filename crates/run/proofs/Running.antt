-- The loop over the steps: the run from here on is the run from the beginning.
use mathlib.Core.Path.{◌≡◌, refl, sym, ap, ◌∙◌}
use mathlib.Core.List.{List, [], ◌∷◌}
use Prim.Native.Nat.{ℕ, ◌+◌, ◌≤◌, ◌<◌}
use native.Mathlib.Omega.{arith}
use native.Mathlib.Numerals.{add-one}
use lib.ListN.{length, get_or, drop}
use lib.Seq.{drop-cons, drop-length}
use Rattle.method.specs.Steps.{State, fresh, Step, byte_step, steps, step, run_from, run, Kind, taken, idle, unknown, Counts, counted}
use Rattle.method.specs.Steps.{counts_from, counts}
use Rattle.network.specs.declared.Layout.{Layout}
use Rattle.network.specs.Layout.{net_of, Laid}
use Rattle.run_cells.specs.Part.{Part, state_of}
use Rattle.run.specs.Resting.{Resting, Done}
use Rattle.run.proofs.Rested.{table_low, i_node}
use Rattle.run.specs.Ran.{Ran}

abbrev plus : Counts → Counts → Counts
plus a b = record { taken = a.taken + b.taken; idle = a.idle + b.idle; unknown = a.unknown + b.unknown }

abbrev none : Counts
none = record { taken = 0; idle = 0; unknown = 0 }

counts_are : (a b : Counts) → a.taken ≡ b.taken → a.idle ≡ b.idle → a.unknown ≡ b.unknown → a ≡ b
counts_are a b p q r = ap (λ (x : ℕ). record { taken = x; idle = a.idle; unknown = a.unknown }) p
    ∙ ap (λ (x : ℕ). record { taken = b.taken; idle = x; unknown = a.unknown }) q
    ∙ ap (λ (x : ℕ). record { taken = b.taken; idle = b.idle; unknown = x }) r

-- one step more, counted before or after
plus_counted : (k : Kind) (a b : Counts) → plus (counted k a) b ≡ plus a (counted k b)
plus_counted taken a b = counts_are (plus (counted taken a) b) (plus a (counted taken b)) (omega arith) refl refl
plus_counted idle a b = counts_are (plus (counted idle a) b) (plus a (counted idle b)) refl (omega arith) refl
plus_counted unknown a b = counts_are (plus (counted unknown a) b) (plus a (counted unknown b)) refl refl (omega arith)

pub counted_le : (k : Kind) (a b : Counts) → b ≡ counted k a
    → (b.taken ≤ a.taken + 1) × (b.idle ≤ a.idle + 1) × (b.unknown ≤ a.unknown + 1)
counted_le taken a b e = (
  omega (arith, ap (λ (c : Counts). c.taken) e),
  omega (arith, ap (λ (c : Counts). c.idle) e),
  omega (arith, ap (λ (c : Counts). c.unknown) e),
)
counted_le idle a b e = (
  omega (arith, ap (λ (c : Counts). c.taken) e),
  omega (arith, ap (λ (c : Counts). c.idle) e),
  omega (arith, ap (λ (c : Counts). c.unknown) e),
)
counted_le unknown a b e = (
  omega (arith, ap (λ (c : Counts). c.taken) e),
  omega (arith, ap (λ (c : Counts). c.idle) e),
  omega (arith, ap (λ (c : Counts). c.unknown) e),
)

-- k steps are done
pub record SoFar (g : Layout) (bs : List ℕ) (k : ℕ) (m : ℕ → Part) (c : Counts) : Type 0 where
  pub rest : Resting g m
  pub state : run_from (net_of g) (state_of m) (steps (drop k bs)) ≡ run (net_of g) (steps bs)
  pub counted : plus c (counts_from (net_of g) (state_of m) (steps (drop k bs))) ≡ counts (net_of g) (steps bs)

pub nothing_done : (g : Layout) (bs : List ℕ) (m : ℕ → Part) → Resting g m → state_of m ≡ fresh → SoFar g bs 0 m none
unfolding run counts
nothing_done g bs m re e =
    record {
      rest = re;
      state = ap (λ (st : State). run_from (net_of g) st (steps bs)) e;
      counted = counts_are _ _ (omega arith) (omega arith) (omega arith) ∙ ap (λ (st : State). counts_from (net_of g) st (steps bs)) e;
    }

pub one_done : (g : Layout) (bs : List ℕ) (k : ℕ) (m n : ℕ → Part) (c d : Counts) (r : Kind) → k < length bs → SoFar g bs k m c
    → Done g n r (step (net_of g) (state_of m) (byte_step (get_or bs k 0))) → d ≡ counted r c → SoFar g bs (k + 1) n d
unfolding run_from counts_from
one_done g bs k m n c d r lt so did ed =
    let b = byte_step (get_or bs k 0) in
    let cut : steps (drop k bs) ≡ b ∷ steps (drop (k + 1) bs) =
    ap steps (drop-cons bs k 0 lt) ∙ ap (λ (x : ℕ). b ∷ steps (drop x bs)) (sym (add-one k)) in
    record {
      rest = did.rest;
      state =
          ap (λ (st : State). run_from (net_of g) st (steps (drop (k + 1) bs))) did.state
          ∙ ap (run_from (net_of g) (state_of m)) (sym cut) ∙ so.state;
      counted =
          ap (λ (x : Counts). plus x (counts_from (net_of g) (state_of n) (steps (drop (k + 1) bs)))) ed
          ∙ plus_counted r c (counts_from (net_of g) (state_of n) (steps (drop (k + 1) bs)))
          ∙ ap (λ (x : Kind). plus c (counted x (counts_from (net_of g) (state_of n) (steps (drop (k + 1) bs))))) did.kind
          ∙ ap (λ (st : State). plus c (counted (step (net_of g) (state_of m) b).kind
          (counts_from (net_of g) st (steps (drop (k + 1) bs)))))
          did.state
          ∙ ap (λ (l : List Step). plus c (counts_from (net_of g) (state_of m) l)) (sym cut)
          ∙ so.counted;
    }

pub all_done : (g : Layout) (bs : List ℕ) (k : ℕ) (m : ℕ → Part) (c : Counts) → Laid g → k ≡ length bs → SoFar g bs k m c → Ran g bs m c
unfolding run_from counts_from
all_done g bs k m c la e so =
    let l : drop k bs ≡ [] = ap (λ (x : ℕ). drop x bs) e ∙ drop-length bs in
    record {
      state = sym (ap (λ (x : List ℕ). run_from (net_of g) (state_of m) (steps x)) l) ∙ so.state;
      counted =
          counts_are c (plus c none) (omega arith) (omega arith) (omega arith)
          ∙ sym (ap (λ (x : List ℕ). plus c (counts_from (net_of g) (state_of m) (steps x))) l) ∙ so.counted;
      readable = λ j at. record {
        marks = (so.rest.caches j (i_node g la m so.rest j at)).marks;
        few = table_low g la m so.rest j at;
      };
    }
