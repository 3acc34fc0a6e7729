-- `is_unstarted`: the phase.
use mathlib.Core.Path.{◌≡◌, refl, sym, ap, ◌∙◌}
use Prim.Native.Nat.{ℕ}
use denote.Enum.Bare.{sameb}
use Rattle.run_cells.specs.contracts.Phase.{the_type}
use native.Mathlib.Omega.{arith}
use Rattle.run_cells.specs.declared.Phase.{Phase}
use Rattle.run_cells.specs.declared.Phase.TheVariants.{Unstarted, Started, Stopped}
use Rattle.run_cells.specs.Part.{phase_named, phase_number}
use Rattle.run.proofs.Phases.{own_phase}
use Rattle.call.specs.Calls.{is_unstarted}
use Rattle.call_write.proofs.is_unstarted.Goals as goal

told : (p : Phase) → sameb the_type p Unstarted ≡ is_unstarted (phase_named (phase_number p))
told Unstarted = refl
told Started = refl
told Stopped = refl

pub returns : goal.returns
returns c =
    c.eq.ensures ∙ told _
    ∙ sym (ap (λ (k : ℕ). is_unstarted (phase_named k)) (own_phase c.args.state.now c.args.node c.requires.0 (omega arith)))
