-- How many nodes have stopped: as many as there are, exactly where each has.
use mathlib.Core.Path.{◌≡◌, refl, sym, ap, ◌∙◌}
use mathlib.Core.Logic.{◌⊎◌, inl, inr}
use mathlib.Core.Bool.{Bool, true, false, true≢false}
use Prim.Native.Nat.{ℕ, zero, suc, ◌+◌, ◌≤◌, ◌<◌}
use native.Mathlib.Omega.{arith}
use Rattle.std.specs.Prelude.{if◌then◌else◌}
use Rattle.method.specs.Network.{IsNode}
use Rattle.method.specs.Rules.{Phase, unstarted, started, stopped}
use Rattle.method.specs.Steps.{State}
use Rattle.method.specs.Entries.{has_stopped, is_stopped, stopped_to}
use Rattle.method.proofs.Numbers.{last_or_before}
use Rattle.method.proofs.Ends.{AllStopped, all_or_one}

-- a node that counts as stopped has stopped
pub at_end : (ph : Phase) → has_stopped ph ≡ true → ph ≡ stopped
at_end unstarted e = absurd (true≢false (sym e))
at_end started e = absurd (true≢false (sym e))
at_end stopped e = refl

-- no more have stopped than there are
pub stopped_le : (st : State) (k : ℕ) → stopped_to st k ≤ k
stopped_le st zero = omega arith
stopped_le st (suc k) = go (is_stopped (st (suc k))) (stopped_le st k)
  where
    go : (b : Bool) → stopped_to st k ≤ k → (if b then 1 else 0) + stopped_to st k ≤ suc k
    go true ih = omega arith
    go false ih = omega arith

-- where the nodes 1 to k have stopped, as many have
pub stopped_count : (st : State) (k : ℕ) → AllStopped (λ i. (st i).node) k → stopped_to st k ≡ k
stopped_count st zero all = refl
stopped_count st (suc k) all =
    let last : is_stopped (st (suc k)) ≡ true = ap has_stopped (all (suc k) (omega arith, omega arith)) in
    let sum = ap (λ (t : Bool). (if t then 1 else 0) + stopped_to st k) last in
    let before = stopped_count st k (λ i at. all i (omega arith, omega arith)) in
    omega arith

-- where as many have stopped as there are, each has
pub each_stopped : (st : State) (k : ℕ) → stopped_to st k ≡ k → AllStopped (λ i. (st i).node) k
each_stopped st zero e j at = absurd (omega arith)
each_stopped st (suc k) e j at = go (is_stopped (st (suc k))) refl (last_or_before k j at) (λ f. each_stopped st k f j)
  where
    go : (t : Bool) → is_stopped (st (suc k)) ≡ t → (j ≡ suc k) ⊎ IsNode k j
        → (stopped_to st k ≡ k → IsNode k j → (st j).node.phase ≡ stopped) → (st j).node.phase ≡ stopped
    go true is (inl f) rec = ap (λ (m : ℕ). (st m).node.phase) f ∙ at_end (st (suc k)).node.phase is
    go true is (inr there) rec =
        let sum : 1 + stopped_to st k ≡ suc k = ap (λ (t : Bool). (if t then 1 else 0) + stopped_to st k) (sym is) ∙ e in
        rec (omega arith) there
    go false is w rec =
        let sum : 0 + stopped_to st k ≡ suc k = ap (λ (t : Bool). (if t then 1 else 0) + stopped_to st k) (sym is) ∙ e in
        let le = stopped_le st k in
        absurd (omega arith)

-- where fewer have, one has not
pub one_working : (st : State) (k : ℕ) → stopped_to st k < k → (j : ℕ) × IsNode k j × ((st j).node.phase ≡ stopped → ⊥)
one_working st k lt = go (all_or_one (λ i. (st i).node) k)
  where
    go : AllStopped (λ i. (st i).node) k ⊎ ((j : ℕ) × IsNode k j × ((st j).node.phase ≡ stopped → ⊥))
        → (j : ℕ) × IsNode k j × ((st j).node.phase ≡ stopped → ⊥)
    go (inl all) = absurd (omega (arith, stopped_count st k all))
    go (inr w) = w
