-- `place`: an arc that is not refused by itself has its place in the layout.
use mathlib.Core.Path.{sym, ap}
use Prim.Native.Nat.{ℕ}
use lib.ListN.{get_or}
use Rattle.std.proofs.lemmas.Result.{err_from_is_err_and}
use Rattle.refusal.proofs.Told.{refused_early}
use Rattle.network.specs.Refusal.{lone_rows}
use Rattle.network.specs.Given.{given}
use Rattle.network.proofs.Placed.{ends, repeated, new}
use native.Mathlib.Omega.{arith}
use Rattle.network.proofs.Layout.place.Goals as goal

pub returns-in_err-judge-clause-refused : goal.returns-in_err-judge-clause-refused
returns-in_err-judge-clause-refused c =
    let p = err_from_is_err_and c.from_residual.result c.from_residual.ensures.1 in
    let g = c.args.self.now in
    rw (p.1, p.2) (refused_early c.in_err-judge.field-0.0 (lone_rows g.nodes g.lmax (given c.args.arc)) _ c.in_err-judge.ensures)

pub overflow_sub-site : goal.overflow_sub-site
overflow_sub-site c =
    let e = ends c.args.self.now c.args.arc c.requires.few_nodes (sym c.in_ok-judge.ensures) in
    omega arith

pub overflow_mul-site : goal.overflow_mul-site
overflow_mul-site c =
    let e = ends c.args.self.now c.args.arc c.requires.few_nodes (sym c.in_ok-judge.ensures) in
    omega arith

pub overflow_sub-site-2 : goal.overflow_sub-site-2
overflow_sub-site-2 c =
    let e = ends c.args.self.now c.args.arc c.requires.few_nodes (sym c.in_ok-judge.ensures) in
    omega arith

pub overflow_add-site : goal.overflow_add-site
overflow_add-site c =
    let e = ends c.args.self.now c.args.arc c.requires.few_nodes (sym c.in_ok-judge.ensures) in
    omega arith

pub bounds-self-from : goal.bounds-self-from
bounds-self-from c =
    let e = ends c.args.self.now c.args.arc c.requires.few_nodes (sym c.in_ok-judge.ensures) in
    omega arith

pub returns-then-self-from-clause-refused : goal.returns-then-self-from-clause-refused
returns-then-self-from-clause-refused c =
    let g = c.args.self.now in
    repeated g c.args.arc c.requires.few_nodes (sym c.in_ok-judge.ensures) _ (ap (λ (o : ℕ). get_or g.lengths o 0) c.from.ensures)
    c.if-self-from.true

pub returns-clause-refused : goal.returns-clause-refused
returns-clause-refused c =
    let g = c.args.self.now in
    new g c.args.arc c.requires.few_nodes (sym c.in_ok-judge.ensures) _ (ap (λ (o : ℕ). get_or g.lengths o 0) c.from.ensures)
    c.if-self-from.false
