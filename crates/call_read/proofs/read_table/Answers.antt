-- `read_table`: at most 32 numbers are written.
use mathlib.Core.Path.{sym}
use native.Mathlib.Omega.{arith}
use Rattle.call.proofs.FilesSmall.{numbers_small}
use Rattle.call_read.proofs.read_table.Goals as goal

pub overflow_cast-count : goal.overflow_cast-count
overflow_cast-count c =
    let a = c.args in
    record { fits = omega (arith, numbers_small a.file.now a.room.now c.in-Ok.count (sym c.in-Ok.ensures.0)) }
