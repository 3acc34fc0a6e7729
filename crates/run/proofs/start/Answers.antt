-- `start`: idle, or begun and worked.
use native.Mathlib.Omega.{arith}
use Rattle.run_cells.specs.Part.{cells}
use Rattle.run.proofs.Starting.{low, idle_there, room, at_work, started_there}
use Rattle.run.proofs.start.Goals as goal

pub bounds : goal.bounds
bounds c =
    let a = c.args in
    omega (arith, low a.net.now a.state.now c.requires.0 c.from-number.result a.node c.from-number.ensures c.requires.1)

pub bounds-state-number : goal.bounds-state-number
bounds-state-number c =
    let a = c.args in
    omega (arith, low a.net.now a.state.now c.requires.0 c.from-number.result a.node c.from-number.ensures c.requires.1)

pub begin-requires : goal.begin-requires
begin-requires c =
    let a = c.args in
    room a.net.now a.state.now c.requires.0 c.from-number.result a.node c.from-number.ensures c.requires.1 (omega arith) c.in-Unstarted.is

pub work-requires : goal.work-requires
work-requires c =
    let a = c.args in
    at_work a.net.now a.state.now c.requires.0 c.from-number.result a.node c.from-number.ensures c.requires.1 (omega arith)
    c.in-Unstarted.is c.begin.new.self c.begin.ensures

pub returns-in-Started : goal.returns-in-Started
returns-in-Started c =
    let a = c.args in
    idle_there a.net.now a.state.now c.requires.0 c.from-number.result a.node c.from-number.ensures c.requires.1 (omega arith)
    c.in-Started.is

pub returns-in-Unstarted : goal.returns-in-Unstarted
returns-in-Unstarted c =
    let a = c.args in
    started_there a.net.now a.state.now c.requires.0 c.from-number.result a.node c.from-number.ensures c.requires.1 (omega arith)
    c.in-Unstarted.is c.begin.new.self c.begin.ensures (cells c.work.new.state) c.work.ensures
