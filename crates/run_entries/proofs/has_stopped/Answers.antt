-- `has_stopped`: the phase.
use mathlib.Core.Path.{sym, ap, ◌∙◌}
use Prim.Native.Nat.{◌-◌}
use native.Mathlib.Omega.{arith}
use lib.ListN.{get_or}
use Rattle.run_cells.proofs.Stored.{blank}
use Rattle.run_entries.proofs.Reading.{stopped_phase, stopped_here, not_stopped}
use Rattle.run_entries.proofs.has_stopped.Goals as goal

pub returns-in-Stopped : goal.returns-in-Stopped
returns-in-Stopped c =
    sym (ap stopped_phase c.in-Stopped.is) ∙ stopped_here c.args.state.now c.args.node c.requires.0 (omega arith)

pub returns-in_default : goal.returns-in_default
returns-in_default c =
    let s = c.args.state.now in
    not_stopped (get_or s.parts (c.args.node - 1) blank).phase c.in_default.not-Stopped
    ∙ stopped_here s c.args.node c.requires.0 (omega arith)
