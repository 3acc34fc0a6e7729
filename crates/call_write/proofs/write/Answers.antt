-- `write`: the refusals in order; between 11 and 12 the steps are run.
use mathlib.Core.Path.{sym, ◌∙◌}
use native.Mathlib.Omega.{arith}
use Rattle.std.proofs.lemmas.Result.{err_from_is_err_and}
use Rattle.refusal.proofs.Tests.{inside}
use Rattle.network.proofs.Laws.{sizes, laid}
use Rattle.call_write.proofs.Records.{some_entry}
use Rattle.call_write.proofs.Answered.{has_started, file_fits, refused_answers, outside_answers, unstarted_answers, file_answers}
use Rattle.call_write.proofs.write.Goals as goal

pub returns-in_err-net : goal.returns-in_err-net
returns-in_err-net c net is =
    let p = err_from_is_err_and c.from_residual.result c.from_residual.ensures.1 in
    rw (p.1, p.2) (refused_answers net c.in_err-net.field-0.0 _ _ _ (rw c.in_err-net.was at is))

pub returns-then-outside : goal.returns-then-outside
returns-then-outside c net is =
    outside_answers net c.in_ok-net.net (rw c.in_ok-net.was at is) _ _ _ (rw c.from.ensures at (sym c.if-outside.ensures))

pub is_unstarted-requires : goal.is_unstarted-requires
is_unstarted-requires c =
    let s = sizes c.in_ok-net.net in
    let at = inside c.in_ok-net.net.layout.nodes c.args.node (rw c.from.ensures at (sym c.outside.ensures ∙ c.if-outside.false)) in
    (omega arith, omega arith)

pub returns-then-is_unstarted : goal.returns-then-is_unstarted
returns-then-is_unstarted c net is =
    unstarted_answers net c.in_ok-net.net (rw c.in_ok-net.was at is) _ c.args.node _
    (rw c.from.ensures at (sym c.outside.ensures ∙ c.if-outside.false)) _ _ c.run.ensures
    (sym c.is_unstarted.ensures ∙ c.if-is_unstarted.true)

pub put_file-requires-clause-node : goal.put_file-requires-clause-node
put_file-requires-clause-node c =
    inside c.in_ok-net.net.layout.nodes c.args.node (rw c.from.ensures at (sym c.outside.ensures ∙ c.if-outside.false))

pub put_file-requires-clause-own : goal.put_file-requires-clause-own
put_file-requires-clause-own c =
    let g = c.in_ok-net.net.layout in
    let up = has_started g c.args.steps.now _ _ c.run.ensures c.args.node (sym c.is_unstarted.ensures ∙ c.if-is_unstarted.false) in
    some_entry g c.args.steps.now _ _ (laid c.in_ok-net.net) c.run.ensures c.args.node up

pub put_file-requires-clause-few : goal.put_file-requires-clause-few
put_file-requires-clause-few c =
    let at = inside c.in_ok-net.net.layout.nodes c.args.node (rw c.from.ensures at (sym c.outside.ensures ∙ c.if-outside.false)) in
    (c.run.ensures.readable c.args.node at).few

pub overflow_cast-result : goal.overflow_cast-result
overflow_cast-result c =
    let at = inside c.in_ok-net.net.layout.nodes c.args.node (rw c.from.ensures at (sym c.outside.ensures ∙ c.if-outside.false)) in
    let fits = file_fits c.in_ok-net.net.layout c.args.steps.now _ _ c.run.ensures c.args.node
    (sym c.is_unstarted.ensures ∙ c.if-is_unstarted.false) (laid c.in_ok-net.net) at c.args.room.now _ c.in_ok-size.ensures.told in
    record { fits = omega (arith, fits) }

pub returns-in_err-size : goal.returns-in_err-size
returns-in_err-size c net is =
    let p = err_from_is_err_and c.from_residual-in_err-size.result c.from_residual-in_err-size.ensures.1 in
    rw (p.1, p.2)
    (file_answers net c.in_ok-net.net (rw c.in_ok-net.was at is) _ c.args.node _
    (rw c.from.ensures at (sym c.outside.ensures ∙ c.if-outside.false)) _ _ c.run.ensures
    (sym c.is_unstarted.ensures ∙ c.if-is_unstarted.false) _ c.in_err-size.ensures.told _ c.in_err-size.ensures.left)

pub returns : goal.returns
returns c net is =
    file_answers net c.in_ok-net.net (rw c.in_ok-net.was at is) _ c.args.node _
    (rw c.from.ensures at (sym c.outside.ensures ∙ c.if-outside.false)) _ _ c.run.ensures
    (sym c.is_unstarted.ensures ∙ c.if-is_unstarted.false) _ c.in_ok-size.ensures.told _ c.in_ok-size.ensures.left
