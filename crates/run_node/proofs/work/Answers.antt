-- `work`: from the choice of an arc.
use mathlib.Core.Path.{sym, ap, ◌∙◌}
use native.Mathlib.Omega.{arith}
use Rattle.method.specs.Rules.{Choice}
use Rattle.run_cells.specs.Part.{Part}
use Rattle.run_cells.proofs.Stored.{blank, own_part}
use Rattle.run_node.specs.Rules.{least}
use Rattle.run_node.proofs.Loops.{number_low}
use Rattle.run_node.proofs.work.Goals as goal

pub offset_bounds-state-node : goal.offset_bounds-state-node
offset_bounds-state-node c = omega (arith, number_low c.args.net.now c.requires)

pub bounds-state-node : goal.bounds-state-node
bounds-state-node c = omega (arith, number_low c.args.net.now c.requires)

pub work_from-requires : goal.work_from-requires
work_from-requires c =
    let s = c.args.state.now in
    let low = number_low c.args.net.now c.requires in
    let own = ap (λ (f : Part). least f 16) (sym (own_part s c.args.node blank low.0 (omega (arith, low)))) in (
      c.requires,
      (c.choose-first.ensures.0.0 ∙ ap (λ (p : Choice). p.sum) own, c.choose-first.ensures.0.1 ∙ ap (λ (p : Choice). p.head) own),
    )
