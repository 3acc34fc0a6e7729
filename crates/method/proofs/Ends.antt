-- Every run can be brought to its end, however messages travel: while a node has not stopped some step is taken, and no run takes more
-- than so many.
use mathlib.Core.Path.{◌≡◌, refl, sym, ap, subst, ◌∙◌}
use mathlib.Core.Logic.{◌⊎◌, inl, inr}
use mathlib.Core.List.{List, [], ◌∷◌, ◌++◌, append-nil, append_assoc, map, map-append}
use Prim.Native.Nat.{ℕ, zero, suc, ◌+◌, ◌≤◌, ◌<◌, zero-le}
use native.Mathlib.Omega.{arith}
use lib.ListN.{get_or}
use Rattle.method.specs.Network.{Net, IsNode, Sizes, Valid}
use Rattle.method.specs.Loop.{Loopless}
use Rattle.method.specs.Rules.{Phase, unstarted, started, stopped, Node}
use Rattle.method.specs.Steps.{Step, byte_step, steps, Kind, taken, step, run, counted, Counts, counts}
use Rattle.method.specs.Bounds.{most_taken_sharp}
use Rattle.method.specs.Entries.{nodes}
use Rattle.method.proofs.Numbers.{last_or_before}
use Rattle.method.proofs.Counted.{each}
use Rattle.method.proofs.Taken.{taken_few}
use Rattle.method.proofs.Progress.{some_value, some_step}

-- the nodes 1 to k have stopped
abbrev pub AllStopped : (ℕ → Node) → ℕ → Type 0
AllStopped nd k = (i : ℕ) → IsNode k i → (nd i).phase ≡ stopped

-- all have, or one has not
pub all_or_one : (nd : ℕ → Node) (k : ℕ) → AllStopped nd k ⊎ ((i : ℕ) × IsNode k i × ((nd i).phase ≡ stopped → ⊥))
all_or_one nd zero = inl (λ i at. absurd (omega arith))
all_or_one nd (suc k) = go (nd (suc k)).phase refl (all_or_one nd k)
  where
    one : ((nd (suc k)).phase ≡ stopped → ⊥) → (i : ℕ) × IsNode (suc k) i × ((nd i).phase ≡ stopped → ⊥)
    one ne = (suc k, (omega arith, omega arith), ne)

    last : AllStopped nd k → (nd (suc k)).phase ≡ stopped → AllStopped nd (suc k)
    last all e i at = by (last_or_before k i at)
      where
        by : (i ≡ suc k) ⊎ IsNode k i → (nd i).phase ≡ stopped
        by (inl q) = ap (λ (n : ℕ). (nd n).phase) q ∙ e
        by (inr there) = all i there

    go : (ph : Phase) → (nd (suc k)).phase ≡ ph → AllStopped nd k ⊎ ((i : ℕ) × IsNode k i × ((nd i).phase ≡ stopped → ⊥))
        → AllStopped nd (suc k) ⊎ ((i : ℕ) × IsNode (suc k) i × ((nd i).phase ≡ stopped → ⊥))
    go unstarted e r = inr (one (λ q. let z : ◌≡◌ {A = ℕ} 0 1 = cc in omega arith))
    go started e r = inr (one (λ q. let z : ◌≡◌ {A = ℕ} 0 1 = cc in omega arith))
    go stopped e (inl all) = inl (last all e)
    go stopped e (inr p) = let at = p.1 in inr (p.0, (omega arith, omega arith), p.2)

-- Nodes after each list of steps, whatever a step is, and a count that some step raises while a node has not stopped, but never over
-- `most`.
module _ {A : Type 0} (nd : List A → ℕ → Node) (n : ℕ) (count : List A → ℕ) (most : ℕ) (low : (bs : List A) → count bs ≤ most)
    (on : (bs : List A) (i : ℕ) → IsNode n i → ((nd bs i).phase ≡ stopped → ⊥) → (b : A) × (count (bs ++ (b ∷ [])) ≡ suc (count bs))) where
  abbrev Ending : List A → Type 0
  Ending bs = (cs : List A) × AllStopped (nd (bs ++ cs)) n

  further : (k : ℕ) (bs : List A) → most < count bs + k → Ending bs
  further zero bs lt = absurd (omega (arith, low bs))
  further (suc k) bs lt = go (all_or_one (nd bs) n) (λ cs le. further k cs le)
    where
      go : AllStopped (nd bs) n ⊎ ((i : ℕ) × IsNode n i × ((nd bs i).phase ≡ stopped → ⊥))
          → ((cs : List A) → most < count cs + k → Ending cs) → Ending bs
      go (inl all) rec = ([], subst (λ (cs : List A). AllStopped (nd cs) n) (sym (append-nil bs)) all)
      go (inr p) rec =
          let s = on bs p.0 p.1 p.2 in
          let r = rec (bs ++ (s.0 ∷ [])) (omega (arith, s.1)) in
          (s.0 ∷ r.0, subst (λ (cs : List A). AllStopped (nd cs) n) (append_assoc bs (s.0 ∷ []) r.0) r.1)

  pub ends : (bs : List A) → (cs : List A) × AllStopped (nd (bs ++ cs)) n
  ends bs = further (suc most) bs (omega arith)

-- a taken step is one more
pub one_more_lem : (net : Net) (bs : List Step) (b : Step) → (step net (run net bs) b).kind ≡ taken
    → (counts net (bs ++ (b ∷ []))).taken ≡ suc (counts net bs).taken
one_more_lem net bs b e = ap (λ (c : Counts). c.taken) (each net bs b) ∙ ap (λ (k : Kind). (counted k (counts net bs)).taken) e

-- so it is with 01's runs
pub runs_end : (net : Net) → Valid net → Loopless net → (bs : List Step) → (cs : List Step) × AllStopped (nodes net (bs ++ cs)) net.n
runs_end net va loopless = ends (nodes net) net.n (λ bs. (counts net bs).taken) (most_taken_sharp net) (taken_few net va) on
  where
    on : (bs : List Step) (i : ℕ) → IsNode net.n i → ((nodes net bs i).phase ≡ stopped → ⊥)
        → (b : Step) × ((counts net (bs ++ (b ∷ []))).taken ≡ suc (counts net bs).taken)
    on bs i at ne = let s = some_value net va loopless bs i at ne in (s.0, one_more_lem net bs s.0 s.1)

-- and with their step bytes
abbrev Byte : Type 0
Byte = (b : ℕ) × (b ≤ 255)

abbrev numbers : List Byte → List ℕ
numbers cs = map (λ (b : Byte). b.0) cs

numbers_low : (cs : List Byte) (k : ℕ) → get_or (numbers cs) k 0 ≤ 255
numbers_low [] k = zero-le
numbers_low (b ∷ cs) zero = b.1
numbers_low (b ∷ cs) (suc k) = numbers_low cs k

pub bytes_end : (net : Net) → Sizes net → Valid net → Loopless net → (bs : List Step)
    → (cs : List ℕ) × ((k : ℕ) → get_or cs k 0 ≤ 255) × AllStopped (nodes net (bs ++ steps cs)) net.n
bytes_end net small va loopless bs =
    let r = ends (λ cs. nodes net (after cs)) net.n (λ cs. (counts net (after cs)).taken) (most_taken_sharp net)
    (λ cs. taken_few net va (after cs)) on [] in
    (numbers r.0, numbers_low r.0, r.1)
  where
    -- the steps bs and then cs
    after : List Byte → List Step
    after cs = bs ++ steps (numbers cs)

    after_one : (cs : List Byte) (b : Byte) → after (cs ++ (b ∷ [])) ≡ after cs ++ (byte_step b.0 ∷ [])
    after_one cs b =
        ap (λ (ds : List ℕ). bs ++ steps ds) (map-append (λ (b : Byte). b.0) cs (b ∷ []))
        ∙ ap (λ (ds : List Step). bs ++ ds) (map-append byte_step (numbers cs) (b.0 ∷ []))
        ∙ sym (append_assoc bs (steps (numbers cs)) (byte_step b.0 ∷ []))

    on : (cs : List Byte) (i : ℕ) → IsNode net.n i → ((nodes net (after cs) i).phase ≡ stopped → ⊥)
        → (b : Byte) × ((counts net (after (cs ++ (b ∷ [])))).taken ≡ suc (counts net (after cs)).taken)
    on cs i at ne =
        let s = some_step net small va loopless (after cs) i at ne in
        let b : Byte = (s.0, s.1) in
        (b, ap (λ (ds : List Step). (counts net ds).taken) (after_one cs b) ∙ one_more_lem net (after cs) (byte_step s.0) s.2)
