-- `entry`: read from what the run has left.
use mathlib.Core.Path.{sym, ◌∙◌}
use Rattle.std.proofs.lemmas.Result.{err_from_is_err_and}
use Rattle.run_route.proofs.Laying.{readable}
use Rattle.call_ask.proofs.Asking.{same_refusal, asks, hop_low}
use Rattle.call_ask.proofs.Answered.{unfound, entry_refused, entry_answers, entry_same}
use Rattle.call_ask.proofs.entry.Goals as goal

pub returns-in_err-net-clause-entry : goal.returns-in_err-net-clause-entry
returns-in_err-net-clause-entry c net is =
    let p = err_from_is_err_and c.from_residual.result c.from_residual.ensures.1 in
    let a = c.args in
    let reason = c.in_err-net.field-0.0 in
    rw (p.1, p.2)
    (entry_refused net a.steps.now a.node a.target reason (unfound net reason a.node a.target (rw c.in_err-net.was at is)), tt)

pub returns-in_err-judge-clause-entry : goal.returns-in_err-judge-clause-entry
returns-in_err-judge-clause-entry c net is =
    let p = err_from_is_err_and c.from_residual-in_err-judge.result c.from_residual-in_err-judge.ensures.1 in
    let a = c.args in
    rw (p.1, p.2) (
      entry_refused net a.steps.now a.node a.target c.in_err-judge.field-0.0
          (same_refusal c.in_ok-net.net a.node a.target net (rw c.in_ok-net.was at is) ∙ sym c.in_err-judge.ensures),
      tt,
    )

pub entry-requires : goal.entry-requires
entry-requires c =
    let a = c.args in
    readable _ a.node a.target (asks c.in_ok-net.net a.node a.target c.in_ok-judge.ensures a.steps.now _ _ c.run.ensures)

pub returns-clause-entry : goal.returns-clause-entry
returns-clause-entry c net is =
    let a = c.args in
    let found = rw c.in_ok-net.was at is in (
      entry_answers net c.in_ok-net.net found a.steps.now a.node a.target c.in_ok-judge.ensures _ _ c.run.ensures _ c.entry.ensures,
      entry_same net c.in_ok-net.net found a.steps.now a.node a.target c.in_ok-judge.ensures _ _ c.run.ensures _ c.entry.ensures,
    )

pub returns-clause-short : goal.returns-clause-short
returns-clause-short c =
    let a = c.args in
    rw c.entry.ensures
    (hop_low _ a.node a.target (asks c.in_ok-net.net a.node a.target c.in_ok-judge.ensures a.steps.now _ _ c.run.ensures))
