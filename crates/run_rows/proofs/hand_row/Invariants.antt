-- `hand_row`: one target's entry more at each turn.
use Rattle.run_cells.specs.Part.{cells, state_of}
use Rattle.method.specs.Marks.{entry_numbers}
use Rattle.method.specs.Entries.{entry_of}
use lib.Seq.{sets}
use mathlib.Core.Path.{◌≡◌}
use Rattle.run_rows.proofs.hand_row.Given as goal

abbrev pub invariant-loop-k : goal.invariant-loop-k
invariant-loop-k l = l.entries ≡ sets l.initial.entries l.at (entry_numbers (entry_of (state_of (cells l.state) l.node).node) l.k)
