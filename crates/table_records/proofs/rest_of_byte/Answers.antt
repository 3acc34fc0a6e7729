-- `rest_of_byte`: a field that lies in one byte.
use Prim.Native.Nat.{◌+◌, ◌-◌, ◌*◌, ◌/◌, ◌%◌, ◌^◌}
use mathlib.Core.Path.{◌≡◌, sym}
use lib.ListN.{get_or}
use Rattle.bits.specs.Bits.{Bytes}
use Rattle.bits.proofs.ThreeBytes.{field_in_byte}
use native.Mathlib.Omega.{arith}
use Rattle.table_records.proofs.rest_of_byte.Goals as goal

pub returns : goal.returns
returns c =
    let a = c.args in
    let k = a.p / 8 in
    let o = a.p % 8 in
    let by : Bytes a.file.now = record { each = λ i. omega (arith, c.type_inv.file i) } in
    let e : 8 * k + o ≡ a.p = omega arith in
    let d : get_or a.file.now k 0 / 2 ^ 0 ≡ get_or a.file.now k 0 = omega arith in
    rw (c.power.ensures.0, c.from.ensures) (sym (rw (e, d) at (field_in_byte a.file.now k o (8 - o) 0 by (omega arith) (omega arith))))
