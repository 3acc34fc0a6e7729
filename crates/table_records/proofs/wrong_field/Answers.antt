-- `wrong_field`: the rows of refusal 17, in their order.
use mathlib.Core.Path.{◌≡◌, sym, ◌∙◌, ap}
use mathlib.Core.Bool.{Bool, true, ◌||◌}
use lib.Dec.{eqb, ltb}
use borrow.Author.Tests.{lt-ltb, le-ltb, eq-eqb, ne_eqb}
use Rattle.table.specs.Reader.{field_rows}
use Rattle.table_records.specs.Walk.{is_in}
use Rattle.table_records.proofs.wrong_field.Goals as goal
use Rattle.table_records.proofs.wrong_field.Goals.{then-header-target-via-then-header-target}
use Rattle.table_records.proofs.wrong_field.Goals.{then-header-target-via-else-header-target+then-target-header}
use Rattle.table_records.proofs.wrong_field.Goals.{then-header-target-via-else-header-target+else-target-header+then-is_in}
use Rattle.table_records.proofs.wrong_field.Goals.{then-header-hop-via-then-header-hop, then-header-hop-via-else-header-hop+then-hop-header}
use Rattle.table_records.proofs.wrong_field.Goals.{then-header-difference-via-then-header-difference}
use Rattle.table_records.proofs.wrong_field.Goals.{then-header-difference-via-else-header-difference+then-distance-eq0}

pub returns-then-header-target : goal.returns-then-header-target
unfolding field_rows
returns-then-header-target c =
    let a = c.args in
    let wrong : (ltb a.header.n a.target || eqb a.target a.header.own || is_in a.seen a.target) ≡ true =
    elim c.then-header-target.branch [
      | then-header-target-via-then-header-target w ↦ rw (lt-ltb a.header.n a.target w.if-header-target.true)
      | then-header-target-via-else-header-target+then-target-header w ↦
          rw (le-ltb a.header.n a.target w.if-header-target.false, eq-eqb a.target a.header.own w.if-target-header.true)
      | then-header-target-via-else-header-target+else-target-header+then-is_in w ↦
          rw (le-ltb a.header.n a.target w.if-header-target.false, ne_eqb a.target a.header.own w.if-target-header.false)
          (sym w.is_in.ensures ∙ w.if-is_in.true)
    ] in
    λ p first e. simp wrong

pub returns-then-header-hop : goal.returns-then-header-hop
unfolding field_rows
returns-then-header-hop c =
    let a = c.args in
    let wrong : (ltb a.header.n a.hop || eqb a.hop a.header.own) ≡ true = elim c.then-header-hop.branch [
      | then-header-hop-via-then-header-hop w ↦ rw (lt-ltb a.header.n a.hop w.if-header-hop.true)
      | then-header-hop-via-else-header-hop+then-hop-header w ↦
          rw (le-ltb a.header.n a.hop w.if-header-hop.false, eq-eqb a.hop a.header.own w.if-hop-header.true)
    ] in
    λ p first e. simp (
      le-ltb a.header.n a.target c.if-header-target.false,
      ne_eqb a.target a.header.own c.if-target-header.false,
      sym c.is_in.ensures ∙ c.if-is_in.false,
      wrong,
    )

pub returns-then-header-difference : goal.returns-then-header-difference
unfolding field_rows
returns-then-header-difference c =
    let a = c.args in
    let wrong : (ltb a.header.lmax a.difference || eqb a.distance 0) ≡ true = elim c.then-header-difference.branch [
      | then-header-difference-via-then-header-difference w ↦ rw (lt-ltb a.header.lmax a.difference w.if-header-difference.true)
      | then-header-difference-via-else-header-difference+then-distance-eq0 w ↦
          rw (le-ltb a.header.lmax a.difference w.if-header-difference.false, eq-eqb a.distance 0 w.if-distance-eq0.true)
    ] in
    λ p first e. simp (
      le-ltb a.header.n a.target c.if-header-target.false,
      ne_eqb a.target a.header.own c.if-target-header.false,
      sym c.is_in.ensures ∙ c.if-is_in.false,
      le-ltb a.header.n a.hop c.if-header-hop.false,
      ne_eqb a.hop a.header.own c.if-hop-header.false,
      ap (λ (b : Bool). ltb a.header.lmax a.difference || b) (sym e) ∙ wrong,
    )

pub returns : goal.returns
unfolding field_rows
returns c =
    let a = c.args in
    λ p first e. simp (
      le-ltb a.header.n a.target c.if-header-target.false,
      ne_eqb a.target a.header.own c.if-target-header.false,
      sym c.is_in.ensures ∙ c.if-is_in.false,
      le-ltb a.header.n a.hop c.if-header-hop.false,
      ne_eqb a.hop a.header.own c.if-hop-header.false,
      le-ltb a.header.lmax a.difference c.if-header-difference.false,
      sym e ∙ ne_eqb a.distance 0 c.if-distance-eq0.false,
    )
