-- `stop`: the end, then the phase.
use mathlib.Core.Path.{ap, ◌∙◌}
use Rattle.run_cells.specs.Part.{Part, phase_at}
use Rattle.run_cells.specs.Stores.{upd, stopped_part}
use Rattle.run_cells.specs.declared.Phase.TheVariants.{Stopped}
use Rattle.run_cells.proofs.Fields.{store_phase}
use Rattle.run_cells.proofs.Part.stop.Goals as goal

pub returns : goal.returns
unfolding stopped_part
returns c = store_phase c.push.new.self Stopped ∙ ap (λ (f : Part). upd f phase_at 2) c.push.ensures
