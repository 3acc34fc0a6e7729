-- `hand_rows`: one node's row more at each turn.
use mathlib.Core.Path.{◌≡◌}
use lib.Seq.{sets}
use Rattle.method.specs.Entries.{entry_of}
use Rattle.method.specs.Marks.{row_numbers}
use Rattle.run_cells.specs.Part.{cells, state_of}
use Rattle.run_rows.proofs.hand_rows.Given as goal

abbrev pub invariant-loop-i : goal.invariant-loop-i
invariant-loop-i l =
    l.entries ≡ sets l.initial.entries 0 (row_numbers (λ i. entry_of (state_of (cells l.state) i).node) l.nodes l.i)
