-- `run`: a refused network is not run, nor is one whose entries have no room; what the run leaves is handed over.
use mathlib.Core.Path.{◌≡◌}
use native.Mathlib.Omega.{arith}
use borrow.Author.Rules.{rules}
use Rattle.std.proofs.lemmas.Result.{err_from_is_err_and}
use Rattle.network.proofs.Laws.{sizes}
use Rattle.call_run.proofs.Answered.{refused_answers, short_answers, run_answers}
use Rattle.call_run.proofs.run.Goals as goal

pub returns-in_err-net : goal.returns-in_err-net
returns-in_err-net c net is =
    let p = err_from_is_err_and c.from_residual.result c.from_residual.ensures.1 in
    rw (p.1, p.2) (refused_answers net c.in_err-net.field-0.0 _ _ _ (rw c.in_err-net.was at is))

pub count_stopped-stopped-requires : goal.count_stopped-stopped-requires
count_stopped-stopped-requires c = let s = sizes c.in_ok-net.net in omega arith

pub hand_rows-requires : goal.hand_rows-requires
hand_rows-requires c =
    let s = sizes c.in_ok-net.net in
    let n : c.from-nodes.result ≡ c.in_ok-net.net.layout.nodes = omega arith in
    (omega arith, rw n c.run-ran.ensures.readable, omega arith)

pub returns-then-entries-nodes : goal.returns-then-entries-nodes
returns-then-entries-nodes c net is =
    let n : c.from-nodes.result ≡ c.in_ok-net.net.layout.nodes = omega arith in
    short_answers net c.in_ok-net.net (rw c.in_ok-net.was at is) _ _ _ (rw n at c.if-entries-nodes.true)

pub returns : goal.returns
returns c net is =
    let n : c.from-nodes.result ≡ c.in_ok-net.net.layout.nodes = omega arith in
    run_answers net c.in_ok-net.net (rw c.in_ok-net.was at is) c.args.steps.now _ _ _ _ _ _ _ _
    (rw n at c.if-entries-nodes.false) (search rules) c.run-ran.ensures (rw n at c.count_stopped-stopped.ensures)
    (rw n at c.hand_rows.ensures)
