-- `route`: the way is counted, and laid where the room has place for it.
use mathlib.Core.Path.{sym, ap, ◌∙◌}
use Rattle.method.specs.Marks.{distance_of}
use native.Mathlib.Omega.{arith}
use Rattle.std.proofs.lemmas.Result.{err_from_is_err_and}
use Rattle.run_route.proofs.Laying.{readable}
use Rattle.call_ask.proofs.Asking.{same_refusal, asks, passed_low}
use Rattle.call_ask.proofs.Answered.{unfound, route_refused, route_short, route_answers}
use Rattle.call_ask.proofs.route.Goals as goal

pub returns-in_err-net : goal.returns-in_err-net
returns-in_err-net c net is =
    let p = err_from_is_err_and c.from_residual.result c.from_residual.ensures.1 in
    let a = c.args in
    let reason = c.in_err-net.field-0.0 in
    rw (p.1, p.2)
    (route_refused net a.steps.now a.node a.target reason (unfound net reason a.node a.target (rw c.in_err-net.was at is)) a.room.now)

pub returns-in_err-judge : goal.returns-in_err-judge
returns-in_err-judge c net is =
    let p = err_from_is_err_and c.from_residual-in_err-judge.result c.from_residual-in_err-judge.ensures.1 in
    let a = c.args in
    rw (p.1, p.2)
    (route_refused net a.steps.now a.node a.target c.in_err-judge.field-0.0
    (same_refusal c.in_ok-net.net a.node a.target net (rw c.in_ok-net.was at is) ∙ sym c.in_err-judge.ensures) a.room.now)

pub lay_way-k-requires : goal.lay_way-k-requires
lay_way-k-requires c =
    let a = c.args in
    let ready = asks c.in_ok-net.net a.node a.target c.in_ok-judge.ensures a.steps.now _ _ c.run.ensures in
    (ready, omega (arith, passed_low _ a.node a.target ready))

pub returns-then-room-k : goal.returns-then-room-k
returns-then-room-k c net is =
    let a = c.args in
    route_short net c.in_ok-net.net (rw c.in_ok-net.was at is) a.steps.now a.node a.target c.in_ok-judge.ensures _ _ c.run.ensures
    a.room.now _ c.lay_way-k.ensures.0 c.if-room-k.true

pub lay_way-requires : goal.lay_way-requires
lay_way-requires c =
    let a = c.args in
    let ready = asks c.in_ok-net.net a.node a.target c.in_ok-judge.ensures a.steps.now _ _ c.run.ensures in
    (ready, omega (arith, c.lay_way-k.ensures.0))

pub entry-requires : goal.entry-requires
entry-requires c =
    let a = c.args in
    readable _ a.node a.target (asks c.in_ok-net.net a.node a.target c.in_ok-judge.ensures a.steps.now _ _ c.run.ensures)

pub returns : goal.returns
returns c net is =
    let a = c.args in
    route_answers net c.in_ok-net.net (rw c.in_ok-net.was at is) a.steps.now a.node a.target c.in_ok-judge.ensures _ _ c.run.ensures
    a.room.now _ c.lay_way-k.ensures.0 (omega arith) _ _
    (c.distance.ensures ∙ ap distance_of c.entry.ensures) c.lay_way.ensures.1
