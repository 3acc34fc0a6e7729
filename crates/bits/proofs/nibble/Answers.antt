-- `nibble`: half a byte is a field that lies in one byte.
use Prim.Native.Nat.{◌+◌, ◌-◌, ◌*◌, ◌/◌, ◌%◌}
use mathlib.Core.Path.{◌≡◌, sym}
use Rattle.bits.specs.Bits.{Bytes}
use Rattle.bits.proofs.ThreeBytes.{field_in_byte}
use native.Mathlib.Omega.{arith}
use Rattle.bits.proofs.nibble.Goals as goal

pub returns : goal.returns
returns c =
    let a = c.args in
    let o = 4 * (a.k % 2) in
    let by : Bytes a.s.now = record { each = λ i. omega (arith, c.type_inv.s i) } in
    let e : 8 * (a.k / 2) + o ≡ 4 * a.k = omega arith in
    (rw (c.from.ensures, ← e) (sym (field_in_byte a.s.now (a.k / 2) o 4 (4 - o) by (omega arith) (omega arith))), omega arith)
