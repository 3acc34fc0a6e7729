-- `run`: step by step, what is left of the list gives the rest of the run.
use Rattle.run.proofs.Running.{SoFar}
use Rattle.run.specs.Ran.{tallied}
use Rattle.run_cells.specs.Part.{cells}
use Prim.Native.Nat.{◌≤◌}
use Rattle.run.proofs.run.Given as goal

abbrev pub invariant-loop-byte : goal.invariant-loop-byte
invariant-loop-byte l =
    SoFar l.net.layout l.steps l.byte-index (cells l.state) (tallied l.counts.taken l.counts.idle l.counts.unknown)
    × (l.counts.taken ≤ l.byte-index) × (l.counts.idle ≤ l.byte-index) × (l.counts.unknown ≤ l.byte-index)
