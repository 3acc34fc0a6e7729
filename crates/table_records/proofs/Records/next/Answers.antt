-- `next`: no record, a wrong one, or one more.
use mathlib.Core.Path.{refl, sym, ◌∙◌, ap}
use Rattle.refusal.specs.Rows.{refusal}
use Rattle.table_records.proofs.Walk.{at_nothing, at_before}
use Rattle.table_records.proofs.Thirteen.{not_there, met_wrong, met_record}
use Rattle.table_records.proofs.Steps.{narrow, stays}
use native.Mathlib.Omega.{arith}
use Rattle.table_records.proofs.Records.next.Goals as goal

pub record_at-record-requires : goal.record_at-record-requires
record_at-record-requires c =
    let r = c.args.self.now in
    omega (arith, (narrow r.file.now r.sound r.walked).0)

pub returns-then-record-lt4096-clause-steps : goal.returns-then-record-lt4096-clause-steps
returns-then-record-lt4096-clause-steps c =
    let r = c.args.self.now in
    let none = not_there r.file.now r.cursor.at _ c.record_at-record.ensures.0 (omega arith) in
    let end = at_nothing r.walked none in
    (sym end.0, end.1 ∙ rw none, refl, none)

pub place-requires : goal.place-requires
place-requires c =
    let r = c.args.self.now in
    (narrow r.file.now r.sound r.walked).0

pub returns-in-Some-clause-steps : goal.returns-in-Some-clause-steps
returns-in-Some-clause-steps c =
    let r = c.args.self.now in
    let wrong = met_wrong r.file.now r.walked _ _ c.record_at-record.ensures.0 (omega arith) c.wrong_field.ensures _ c.in-Some.is in
    (sym wrong.0, ap (refusal 17) c.place.ensures ∙ sym wrong.1, refl, wrong.2)

pub overflow_add-distance : goal.overflow_add-distance
overflow_add-distance c =
    let r = c.args.self.now in
    record { fits = omega (arith, (narrow r.file.now r.sound r.walked).2) }

pub overflow_add-self : goal.overflow_add-self
overflow_add-self c =
    let r = c.args.self.now in
    record { fits = omega (arith, (narrow r.file.now r.sound r.walked).0) }

pub overflow_add-self-2 : goal.overflow_add-self-2
overflow_add-self-2 c =
    let r = c.args.self.now in
    record { fits = omega (arith, (narrow r.file.now r.sound r.walked).1, c.power.ensures.2) }

pub invariant_of-self : goal.invariant_of-self
invariant_of-self c =
    let r = c.args.self.now in
    let wrong = c.wrong_field in
    let on = met_record r.file.now r.walked _ _ c.record_at-record.ensures.0 (omega arith)
    wrong.ensures c.in_default.is _ c.power.ensures.0 in
    record { sound = r.sound; walked = stays on }

pub overflow_cast-result-2 : goal.overflow_cast-result-2
overflow_cast-result-2 c =
    let r = c.args.self.now in
    record { fits = omega (arith, (narrow r.file.now r.sound r.walked).2) }

pub returns-clause-steps : goal.returns-clause-steps
returns-clause-steps c =
    let r = c.args.self.now in
    let wrong = c.wrong_field in
    at_before
    (met_record r.file.now r.walked _ _ c.record_at-record.ensures.0 (omega arith) wrong.ensures c.in_default.is _ c.power.ensures.0)
