-- `begin`: label, entry and phase.
use mathlib.Core.Path.{ap, ◌∙◌}
use native.Mathlib.Omega.{arith}
use Rattle.run_cells.specs.Part.{Part, phase_at, entry_count, numbers}
use Rattle.run_cells.specs.Stores.{upd, noted, begun_part}
use Rattle.run_cells.specs.declared.Phase.TheVariants.{Started}
use Rattle.run_cells.proofs.Fields.{store_phase}
use Rattle.run_cells.proofs.Loads.{filled_is}
use Rattle.run_cells.proofs.Stored.{pushed_else}
use Rattle.run_cells.proofs.Part.begin.Goals as goal

pub note-requires : goal.note-requires
note-requires c =
    let p = c.args.self.now in (
      omega arith,
      omega (
        arith,
        filled_is p,
        filled_is c.push.new.self,
        ap (λ (f : Part). f entry_count) c.push.ensures,
        pushed_else (numbers p) c.args.node entry_count (omega arith) (omega arith),
      ),
    )

pub returns : goal.returns
unfolding begun_part
returns c =
    store_phase c.note.new.self Started
    ∙ ap (λ (f : Part). upd f phase_at 1) (c.note.ensures ∙ ap (λ (f : Part). noted f c.args.node 0 0) c.push.ensures)
