-- `choose`: head by head the least so far of each half.
use Rattle.run_node.proofs.Halves.{picked, after}
use Rattle.run_node.specs.Rules.{least}
use Rattle.run_cells.specs.Part.{numbers}
use mathlib.Core.Path.{◌≡◌}
use Prim.Native.Nat.{◌-◌}
use Rattle.run_node.proofs.choose.Given as goal

abbrev pub invariant-loop-head : goal.invariant-loop-head
invariant-loop-head l =
    (picked l.low ≡ least (numbers l.part) (l.head - 1)) × (picked l.high ≡ after (numbers l.part) 8 (l.head - 1))
