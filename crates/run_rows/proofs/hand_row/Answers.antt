-- `hand_row`: one target's entry more at each turn.
use mathlib.Core.Path.{refl}
use Prim.Native.Nat.{◌+◌, ◌*◌}
use Rattle.method.specs.Entries.{entry_of}
use Rattle.method.specs.Meant.{meant}
use Rattle.run_cells.specs.Part.{cells, state_of}
use Rattle.run_rows.proofs.Handing.{row_next}
use Rattle.run_rows.proofs.hand_row.Goals as goal

pub loop-k-preserved : goal.loop-k-preserved
loop-k-preserved c =
    let a = c.args in
    let l = c.loop-k in
    row_next (entry_of (state_of (cells a.state.now) a.node).node) a.at l.k (a.at + 2 * l.k) (meant c.entry.result) a.entries.now l.entries
    c.hand_entry.new.entries l.invariant refl c.entry.ensures c.hand_entry.ensures
