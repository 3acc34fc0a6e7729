-- `clear`: the sums head by head.
use mathlib.Core.Path.{◌≡◌}
use lib.ListN.{length}
use Rattle.run_cells.specs.Part.{table_size}
use Rattle.run_cells.proofs.Cleared.{Laid_to}
use Rattle.run_cells.proofs.Part.clear.Given as goal

abbrev pub invariant-loop-head : goal.invariant-loop-head
invariant-loop-head l = record { all : length l.sums ≡ table_size; laid : Laid_to l.net.layout l.node l.sums l.head }
