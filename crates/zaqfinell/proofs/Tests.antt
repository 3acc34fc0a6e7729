-- The tests mean what 01 says.
use mathlib.Core.Path.{◌≡◌, refl, sym}
use mathlib.Core.Logic.{◌⊎◌, inl, inr}
use mathlib.Core.Bool.{Bool, true, false, ◌&&◌, ◌||◌, true≢false}
use mathlib.Core.List.{List, [], ◌∷◌}
use Prim.Native.Nat.{ℕ}
use lib.Dec.{eqb}
use borrow.Author.Tests.{eqb-true, eq-eqb}
use Rattle.method.specs.Network.{Arc, IsArc}
use Rattle.method.specs.Rules.{Filled, Phase, unstarted, started, stopped, has}
use Rattle.method.specs.Invariant.{Has}
use Rattle.method.proofs.Table.{has_true, has_false}
use Rattle.network.specs.Refusal.{joined}
use Rattle.refusal.proofs.Tests.{both}
use Rattle.call.specs.Calls.{is_unstarted}
use Rattle.zaqfinell.specs.Tests.{Tests}

-- of two tests, one holds
or_cases : (t u : Bool) → t || u ≡ true → (t ≡ true) ⊎ (u ≡ true)
or_cases true u e = inl refl
or_cases false u e = inr e

or_right : (t u : Bool) → u ≡ true → t || u ≡ true
or_right true u e = refl
or_right false u e = e

-- an earlier arc
arc_there : (ar : List Arc) (i j : ℕ) → joined ar i j ≡ true → (l : ℕ) × IsArc ar i j l
unfolding joined
arc_there [] i j e = absurd (true≢false (sym e))
arc_there (a ∷ ar) i j e = go (or_cases (eqb a.tail i && eqb a.head j) (joined ar i j) e) (arc_there ar i j)
  where
    go : (eqb a.tail i && eqb a.head j ≡ true) ⊎ (joined ar i j ≡ true) → (joined ar i j ≡ true → (l : ℕ) × IsArc ar i j l)
        → (l : ℕ) × IsArc (a ∷ ar) i j l
    go (inl f) rec =
        let ends = both (eqb a.tail i) (eqb a.head j) f in
        (a.len, inl (eqb-true a.tail i ends.0, eqb-true a.head j ends.1, refl))
    go (inr f) rec = let p = rec f in (p.0, inr p.1)

arc_joins : (ar : List Arc) (i j l : ℕ) → IsArc ar i j l → joined ar i j ≡ true
unfolding joined
arc_joins [] i j l p = absurd p
arc_joins (a ∷ ar) i j l (inl p) = rw (eq-eqb a.tail i p.0, eq-eqb a.head j p.1)
arc_joins (a ∷ ar) i j l (inr p) = or_right (eqb a.tail i && eqb a.head j) (joined ar i j) (arc_joins ar i j l p)

unstarted_is : (ph : Phase) → is_unstarted ph ≡ true → ph ≡ unstarted
unstarted_is unstarted e = refl
unstarted_is started e = absurd (true≢false (sym e))
unstarted_is stopped e = absurd (true≢false (sym e))

-- a target that stands already
target_tells : (y : ℕ) (es : List Filled) → Has y es → has y es ≡ true
target_tells y es there = go (has y es) refl
  where
    go : (b : Bool) → has y es ≡ b → b ≡ true
    go true e = refl
    go false e = absurd (has_false y es e there)

pub tests : Tests
tests =
    record {
      repeated_arc = λ earlier i j. (arc_there earlier i j, λ p. arc_joins earlier i j p.0 p.1);
      not_started = λ ph. (unstarted_is ph, λ e. rw e);
      repeated_target = λ y es. (has_true y es, target_tells y es);
    }
