-- `clear`: part by part.
use Rattle.run_cells.specs.Part.{cells}
use Rattle.run_cells.specs.Stores.{cleared}
use mathlib.Core.Path.{◌≡◌}
use Rattle.run_cells.proofs.State.clear.Given as goal

abbrev pub invariant-loop-i : goal.invariant-loop-i
invariant-loop-i l = cells l.self ≡ cleared l.net.layout (cells l.initial.self) l.i
