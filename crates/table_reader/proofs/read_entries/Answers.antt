-- `read_entries`: the header's refusals, then how the records end, then all that they tell.
use Rattle.std.proofs.lemmas.Result.{err_from_is_err_and}
use Rattle.table_records.proofs.SoundHeader.{header_refuses, is_accepted, records_refuse}
use Rattle.table_reader.proofs.AllRead.{none_stored, all_stored}
use Rattle.table_reader.proofs.read_entries.Goals as goal

pub returns-in_err-records : goal.returns-in_err-records
returns-in_err-records c =
    let p = err_from_is_err_and c.from_residual.result c.from_residual.ensures.1 in
    rw (p.1, p.2) (none_stored c.args.file.now _ c.args.room.now (header_refuses c.args.file.now _ c.in_err-records.ensures.err))

pub returns-in_err-ending : goal.returns-in_err-ending
returns-in_err-ending c =
    let p = err_from_is_err_and c.from_residual-in_err-ending.result c.from_residual-in_err-ending.ensures.1 in
    let r = c.in_ok-records.records in
    let refused = records_refuse r.file.now r.header r.sound _ c.in_err-ending.ensures in
    rw (p.1, p.2) (none_stored c.args.file.now _ c.args.room.now (rw c.in_ok-records.ensures.ok.0 at refused))

pub returns : goal.returns
returns c =
    let r = c.in_ok-records.records in
    let file = c.in_ok-records.ensures.ok.0 in
    let read = is_accepted r.file.now r.header r.sound _ c.in_ok-ending.ensures in
    let left = rw c.absent.ensures at c.put_all.ensures.1 in
    rw file at (all_stored r.file.now r.header r.sound _ read c.args.room.now _ _ c.put_all.ensures.0 left)
