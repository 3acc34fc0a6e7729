-- `check`: what comes before the arcs, then the arcs in one pass.
use mathlib.Core.Path.{sym}
use Rattle.std.proofs.lemmas.Result.{err_from_is_err_and}
use Rattle.network_list.proofs.Whole.{early, refused_arcs, none, means_house, accepted, lengths, sites}
use Rattle.network_list.proofs.check.Goals as goal

pub returns-in_err-before_arcs : goal.returns-in_err-before_arcs
returns-in_err-before_arcs c =
    let p = err_from_is_err_and c.from_residual.result c.from_residual.ensures.1 in
    let a = c.args in
    record {
      refused = rw (p.1, p.2) (early a.n a.lmax a.arcs.now c.in_err-before_arcs.field-0.0 c.in_err-before_arcs.ensures.refused);
      meant = rw p.1 tt;
    }

pub returns-in_err-lay : goal.returns-in_err-lay
returns-in_err-lay c =
    let p = err_from_is_err_and c.from_residual-in_err-lay.result c.from_residual-in_err-lay.ensures.1 in
    let a = c.args in
    record {
      refused = rw (p.1, p.2) (refused_arcs a.n a.lmax a.arcs.now (sym c.in_ok-before_arcs.ensures.refused) c.new-layout.result
          c.new-layout.ensures c.in_err-lay.field-0.0 c.in_err-lay.ensures.refused);
      meant = rw p.1 tt;
    }

pub invariant_of-result : goal.invariant_of-result
invariant_of-result c =
    let a = c.args in
    let h = sym c.in_ok-before_arcs.ensures.refused in
    let e = c.in_ok-lay.ensures in
    record {
      accepted = accepted a.n a.lmax a.arcs.now h c.new-layout.result c.new-layout.ensures e.refused c.lay.new.layout e.laid;
      lengths = lengths a.n a.lmax a.arcs.now h c.new-layout.result c.new-layout.ensures e.refused c.lay.new.layout e.laid;
      sites = sites a.n a.lmax a.arcs.now h c.new-layout.result c.new-layout.ensures e.refused c.lay.new.layout e.laid;
    }

pub returns : goal.returns
returns c =
    let a = c.args in
    let h = sym c.in_ok-before_arcs.ensures.refused in
    let e = c.in_ok-lay.ensures in
    record {
      refused = none a.n a.lmax a.arcs.now h c.new-layout.result c.new-layout.ensures e.refused c.lay.new.layout e.laid;
      meant = means_house a.n a.lmax a.arcs.now h c.new-layout.result c.new-layout.ensures e.refused c.lay.new.layout e.laid;
    }
