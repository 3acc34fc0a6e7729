-- `lay`: the arcs that are left are refused with, and leave laid out, what all of them do.
use mathlib.Core.Path.{refl, ◌∙◌}
use Prim.Native.Nat.{◌+◌}
use native.Mathlib.Omega.{arith}
use Rattle.std.proofs.lemmas.Result.{err_from_is_err_and}
use Rattle.refusal.proofs.Told.{some}
use Rattle.network.specs.LaidOut.{with_arcs}
use Rattle.network.specs.Marks.{marks_rows}
use Rattle.network.proofs.OneMore.{stops, goes_on, one_more_lem}
use Rattle.network_list.proofs.Whole.{ahead, ahead_next, none_ahead}
use Rattle.network_list.proofs.lay.Goals as goal

pub returns-in_err-place-clause-refused : goal.returns-in_err-place-clause-refused
returns-in_err-place-clause-refused c =
    let p = err_from_is_err_and c.from_residual.result c.from_residual.ensures.1 in
    let ys = c.args.arcs.now in
    let l = c.loop-k in
    let g = l.layout in
    rw (p.1, p.2)
    (stops g.nodes g.lmax l.k g _ (ahead ys l.k) (ahead ys (l.k + 1)) (ahead_next ys l.k _ c.loop-k-test.true) _
    c.in_err-place.ensures.refused (λ z. omega (arith, some c.in_err-place.field-0.0)) ∙ l.invariant.refused)

pub loop-k-preserved : goal.loop-k-preserved
loop-k-preserved c =
    let ys = c.args.arcs.now in
    let l = c.loop-k in
    let g = l.layout in
    let e = ahead_next ys l.k _ c.loop-k-test.true in
    let r = c.in_ok-place.ensures in
    record {
      nodes = rw r.laid l.invariant.nodes;
      refused = rw r.laid
          (goes_on g.nodes g.lmax l.k g _ (ahead ys l.k) (ahead ys (l.k + 1)) e _ r.refused refl ∙ l.invariant.refused);
      laid = rw r.laid (one_more_lem g.nodes g.lmax l.k g _ (ahead ys l.k) (ahead ys (l.k + 1)) e _ r.refused ∙ l.invariant.laid);
    }

pub returns-clause-refused : goal.returns-clause-refused
unfolding marks_rows
returns-clause-refused c =
    let e = none_ahead c.args.arcs.now c.loop-k.k (omega arith) in
    rw e at c.loop-k.invariant.refused

pub returns-clause-laid : goal.returns-clause-laid
unfolding with_arcs
returns-clause-laid c =
    let e = none_ahead c.args.arcs.now c.loop-k.k (omega arith) in
    rw e at c.loop-k.invariant.laid
