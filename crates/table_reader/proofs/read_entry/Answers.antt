-- `read_entry`: the header's refusals, then what the records tell, by how they end.
use mathlib.Core.Path.{◌∙◌, ap}
use Rattle.std.specs.Prelude.{Ok, Err}
use Rattle.std.proofs.lemmas.Result.{err_from_is_err_and}
use Rattle.table_records.proofs.SoundHeader.{header_refuses, records_refuse}
use Rattle.table_records.proofs.Steps.{steps_nearer, concludes}
use Rattle.table.specs.declared.Ending.{Ending}
use Rattle.table_reader.proofs.AllRead.{none_read, read_out}
use Rattle.table_reader.proofs.read_entry.Goals as goal

pub returns-in_err-records : goal.returns-in_err-records
returns-in_err-records c =
    let p = err_from_is_err_and c.from_residual.result c.from_residual.ensures.1 in
    rw (p.1, p.2) (none_read c.args.file.now _ c.args.target (header_refuses c.args.file.now _ c.in_err-records.ensures.err))

pub returns-in_err-record : goal.returns-in_err-record
returns-in_err-record c =
    let p = err_from_is_err_and c.from_residual-in_err-record.result c.from_residual-in_err-record.ensures.1 in
    let l = c.loop-record in
    let refused = records_refuse l.records.file.now l.records.header l.records.sound _ c.in_err-record.ensures.steps.1 in
    rw (p.1, p.2) (none_read c.args.file.now _ c.args.target (rw l.invariant.0 at refused))

pub loop-record-smaller-then-from-target : goal.loop-record-smaller-then-from-target
loop-record-smaller-then-from-target c =
    let next = c.next.ensures in
    steps_nearer c.loop-record.records c.next.new.self next.same _ next.steps _ (c.in_ok-record.was ∙ ap Ok c.in-Some.is)

pub loop-record-smaller : goal.loop-record-smaller
loop-record-smaller c =
    let next = c.next.ensures in
    steps_nearer c.loop-record.records c.next.new.self next.same _ next.steps _ (c.in_ok-record.was ∙ ap Ok c.in-Some.is)

pub returns-in_err-end : goal.returns-in_err-end
returns-in_err-end c =
    let p = err_from_is_err_and c.from_residual-in_err-end.result c.from_residual-in_err-end.ensures.1 in
    let l = c.loop-record in
    let next = c.next.ensures in
    let end = concludes _ _ _ _ _ next.steps (c.in_ok-record.was ∙ ap Ok c.in_default.is) l.records.walked (Err c.in_err-end.field-0.0)
    (rw next.same.0 at c.in_err-end.ensures) in
    let refused = records_refuse l.records.file.now l.records.header l.records.sound _ end in
    rw (p.1, p.2) (none_read c.args.file.now _ c.args.target (rw l.invariant.0 at refused))

pub returns-in-Unfinished : goal.returns-in-Unfinished
returns-in-Unfinished c =
    let l = c.loop-record in
    let next = c.next.ensures in
    let told = read_out l.records c.next.new.self next.same _ next.steps (c.in_ok-record.was ∙ ap Ok c.in_default.is) c.args.target l.found
    l.invariant.1 Ending.Unfinished (rw c.in-Unfinished.is at c.in_ok-end.ensures) in
    c.entry_by.ensures ∙ rw l.invariant.0 at told

pub returns-in-Marked : goal.returns-in-Marked
returns-in-Marked c =
    let l = c.loop-record in
    let next = c.next.ensures in
    let told = read_out l.records c.next.new.self next.same _ next.steps (c.in_ok-record.was ∙ ap Ok c.in_default.is) c.args.target l.found
    l.invariant.1 Ending.Marked (rw c.in-Marked.is at c.in_ok-end.ensures) in
    c.entry_by-in-Marked.ensures ∙ rw l.invariant.0 at told
