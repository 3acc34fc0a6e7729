-- `check`: the header, then the arcs in one pass, then the padding.
use mathlib.Core.Path.{◌≡◌, sym, ◌∙◌}
use Rattle.std.proofs.lemmas.Result.{err_from_is_err_and}
use Rattle.network.specs.Bytes.{count}
use Rattle.network_bytes.proofs.Whole.{padding_read, early, refused_arcs, padding_refused, none, means_network, accepted, lengths, sites}
use Rattle.network_bytes.proofs.check.Goals as goal

pub returns-in_err-before_arcs : goal.returns-in_err-before_arcs
returns-in_err-before_arcs c =
    let p = err_from_is_err_and c.from_residual.result c.from_residual.ensures.1 in
    record {
      refused = rw (p.1, p.2) (early c.args.net.now c.in_err-before_arcs.field-0.0 c.in_err-before_arcs.ensures.refused);
      meant = rw p.1 tt;
    }

pub returns-in_err-scan : goal.returns-in_err-scan
returns-in_err-scan c =
    let p = err_from_is_err_and c.from_residual-in_err-scan.result c.from_residual-in_err-scan.ensures.1 in
    record {
      refused = rw (p.1, p.2) (refused_arcs c.args.net.now (sym c.in_ok-before_arcs.ensures.refused) c.begin-layout.result
          c.begin-layout.ensures.headed c.in_err-scan.field-0.0 c.in_err-scan.ensures.refused);
      meant = rw p.1 tt;
    }

pub returns-then-read-ne0 : goal.returns-then-read-ne0
returns-then-read-ne0 c =
    let s = c.args.net.now in
    let m : c.from-m.result ≡ count s = rw c.begin-layout.ensures.headed at c.from-m.ensures in
    let q = padding_read s c.from-m.result c.read.result m c.read.ensures.0 in
    record {
      refused = padding_refused s (sym c.in_ok-before_arcs.ensures.refused) c.begin-layout.result c.begin-layout.ensures.headed
          c.in_ok-scan.ensures.refused (λ z. c.if-read-ne0.true (q ∙ z));
      meant = tt;
    }

pub invariant_of-result : goal.invariant_of-result
invariant_of-result c =
    let s = c.args.net.now in
    let m : c.from-m.result ≡ count s = rw c.begin-layout.ensures.headed at c.from-m.ensures in
    let q = padding_read s c.from-m.result c.read.result m c.read.ensures.0 in
    let h = sym c.in_ok-before_arcs.ensures.refused in
    let e = c.in_ok-scan.ensures in
    let is = c.begin-layout.ensures.headed in
    let blank = sym q ∙ c.if-read-ne0.false in
    record {
      accepted = accepted s h c.begin-layout.result is e.refused blank c.scan.new.layout e.laid;
      lengths = lengths s h c.begin-layout.result is e.refused blank c.scan.new.layout e.laid;
      sites = sites s h c.begin-layout.result is e.refused blank c.scan.new.layout e.laid;
    }

pub returns : goal.returns
returns c =
    let s = c.args.net.now in
    let m : c.from-m.result ≡ count s = rw c.begin-layout.ensures.headed at c.from-m.ensures in
    let q = padding_read s c.from-m.result c.read.result m c.read.ensures.0 in
    let h = sym c.in_ok-before_arcs.ensures.refused in
    let e = c.in_ok-scan.ensures in
    let is = c.begin-layout.ensures.headed in
    let blank = sym q ∙ c.if-read-ne0.false in
    record {
      refused = none s h c.begin-layout.result is e.refused blank c.scan.new.layout e.laid;
      meant = means_network s h c.begin-layout.result is e.refused blank c.scan.new.layout e.laid;
    }
