-- `scan`: the arcs that are left are refused with, and leave laid out, what all of them do.
use mathlib.Core.Path.{refl, ◌∙◌}
use Prim.Native.Nat.{◌+◌}
use native.Mathlib.Omega.{arith}
use Rattle.std.proofs.lemmas.Result.{err_from_is_err_and}
use Rattle.refusal.proofs.Told.{some}
use Rattle.network.specs.LaidOut.{with_arcs}
use Rattle.network.specs.Marks.{marks_rows}
use Rattle.network.proofs.OneMore.{stops, goes_on, one_more_lem, left, none_left, one_less}
use Rattle.network_bytes.proofs.scan.Goals as goal

pub returns-in_err-place-clause-refused : goal.returns-in_err-place-clause-refused
returns-in_err-place-clause-refused c =
    let p = err_from_is_err_and c.from_residual.result c.from_residual.ensures.1 in
    let s = c.args.net.now in
    let m = c.args.layout.now.count in
    let l = c.loop-k in
    let e = one_less s m l.k _ (omega arith) c.arc.ensures in
    rw (p.1, p.2)
    (stops l.layout.nodes l.layout.lmax l.k l.layout _ (left s m l.k) (left s m (l.k + 1)) e _ c.in_err-place.ensures.refused
    (λ z. omega (arith, some c.in_err-place.field-0.0)) ∙ l.invariant.refused)

pub loop-k-preserved : goal.loop-k-preserved
loop-k-preserved c =
    let s = c.args.net.now in
    let m = c.args.layout.now.count in
    let l = c.loop-k in
    let e = one_less s m l.k _ (omega arith) c.arc.ensures in
    let u = c.in_ok-place.ensures.laid in
    let n = c.in_ok-place.ensures.refused in
    record {
      nodes = rw u l.invariant.nodes;
      lmax = rw u l.invariant.lmax;
      count = rw u l.invariant.count;
      refused = rw u (goes_on l.layout.nodes l.layout.lmax l.k l.layout _ (left s m l.k) (left s m (l.k + 1)) e _ n refl
          ∙ l.invariant.refused);
      laid = rw u (one_more_lem l.layout.nodes l.layout.lmax l.k l.layout _ (left s m l.k) (left s m (l.k + 1)) e _ n ∙ l.invariant.laid);
    }

pub returns-clause-refused : goal.returns-clause-refused
unfolding marks_rows
returns-clause-refused c =
    let l = c.loop-k in
    let e = none_left c.args.net.now c.args.layout.now.count l.k (omega arith) in
    rw e at l.invariant.refused

pub returns-clause-laid : goal.returns-clause-laid
unfolding with_arcs
returns-clause-laid c =
    let l = c.loop-k in
    let e = none_left c.args.net.now c.args.layout.now.count l.k (omega arith) in
    rw e at l.invariant.laid
