-- `run`: step by step, what is left of the list gives the rest of the run.
use Rattle.network.proofs.Laws.{laid}
use Rattle.run.proofs.Beginning.{fresh_state, begins}
use Rattle.run.proofs.Running.{counted_le, nothing_done, one_done, all_done}
use Rattle.run.specs.Ran.{kind_of, tallied}
use Rattle.run_cells.specs.Part.{cells}
use native.Mathlib.Omega.{arith}
use Rattle.run.proofs.run.Goals as goal

pub loop-byte-init : goal.loop-byte-init
loop-byte-init c =
    let a = c.args in
    let g = a.net.now.layout in
    let m = cells c.clear.new.self in (
      nothing_done g a.steps.now m (begins g a.state.now m c.clear.ensures (laid a.net.now))
          (fresh_state g a.state.now m c.clear.ensures),
      omega arith,
      omega arith,
      omega arith,
    )

pub loop-byte-preserved : goal.loop-byte-preserved
loop-byte-preserved c =
    let a = c.args in
    let l = c.loop-byte in
    let v = l.invariant in
    let n = c.count.new.self in
    let kind = kind_of c.step.result in
    let before = tallied l.counts.taken l.counts.idle l.counts.unknown in
    let after = tallied n.taken n.idle n.unknown in
    let q = counted_le kind before after c.count.ensures in (
      one_done a.net.now.layout a.steps.now l.byte-index (cells l.state) (cells c.step.new.state) before after kind (omega arith) v.0
          c.step.ensures c.count.ensures,
      omega (arith, q.0, v.1),
      omega (arith, q.1, v.2),
      omega (arith, q.2, v.3),
    )

pub returns : goal.returns
returns c =
    let a = c.args in
    let l = c.loop-byte in
    all_done a.net.now.layout a.steps.now l.byte-index (cells l.state) (tallied l.counts.taken l.counts.idle l.counts.unknown)
    (laid a.net.now) (omega arith) l.invariant.0
