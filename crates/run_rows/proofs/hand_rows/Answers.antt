-- `hand_rows`: one node's row more at each turn.
use mathlib.Core.Path.{refl}
use Rattle.method.specs.Entries.{entry_of}
use Rattle.run_cells.specs.Part.{cells, state_of}
use Rattle.run_rows.proofs.Handing.{rows_next}
use Rattle.run_rows.proofs.hand_rows.Goals as goal

pub loop-i-preserved : goal.loop-i-preserved
loop-i-preserved c =
    let l = c.loop-i in
    let a = c.args in
    rows_next (λ i. entry_of (state_of (cells a.state.now) i).node) a.nodes l.i _ a.entries.now _ _ l.invariant refl c.hand_row.ensures
