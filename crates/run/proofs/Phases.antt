-- A part's phase, as its number.
use mathlib.Core.Path.{◌≡◌, ap, ◌∙◌}
use mathlib.Core.Logic.{◌⊎◌, inl, inr, ◌≢◌}
use Prim.Native.Nat.{ℕ, ◌+◌, ◌-◌, ◌≤◌}
use native.Mathlib.Omega.{arith}
use lib.ListN.{get_or}
use Rattle.run_cells.specs.declared.Phase.{Phase}
use Rattle.run_cells.specs.declared.Phase.TheVariants.{Unstarted, Started, Stopped}
use Rattle.run_cells.specs.declared.State.{State}
use Rattle.run_cells.specs.Part.{Part, phase_at, phase_number, cells}
use Rattle.run_cells.proofs.Loads.{phase_is}
use Rattle.run_cells.proofs.Stored.{blank, Within, Placed, next_part, own_part}

pub next_phase : (s : State) (k : ℕ) → Within s k → cells s (k + 1) phase_at ≡ phase_number (get_or s.parts k blank).phase
next_phase s k lt = ap (λ (f : Part). f phase_at) (next_part s k blank lt) ∙ phase_is (get_or s.parts k blank)

pub own_phase : (s : State) (i : ℕ) → 1 ≤ i → Placed s i
    → cells s i phase_at ≡ phase_number (get_or s.parts (i - 1) blank).phase
own_phase s i pos le = ap (λ (f : Part). f phase_at) (own_part s i blank pos le) ∙ phase_is (get_or s.parts (i - 1) blank)

pub not_unstarted : (p : Phase) → (p ≡ Started) ⊎ (p ≡ Stopped) → phase_number p ≢ 0
not_unstarted p (inl e) z = omega (arith, ap phase_number e)
not_unstarted p (inr e) z = omega (arith, ap phase_number e)

pub not_started : (p : Phase) → (p ≡ Unstarted) ⊎ (p ≡ Stopped) → phase_number p ≢ 1
not_started p (inl e) z = omega (arith, ap phase_number e)
not_started p (inr e) z = omega (arith, ap phase_number e)
