-- `read`: the field, from its window.
use Prim.Native.Nat.{◌+◌, ◌-◌, ◌*◌, ◌/◌, ◌%◌}
use mathlib.Core.Path.{◌≡◌, sym}
use native.Mathlib.Nat.{mod-lt}
use lib.Pow.{pow_pos}
use Rattle.bits.specs.Bits.{Bytes}
use Rattle.bits.proofs.ThreeBytes.{field_in_window}
use native.Mathlib.Omega.{arith}
use Rattle.bits.proofs.read.Goals as goal

pub returns : goal.returns
returns c =
    let a = c.args in
    let o = a.p % 8 in
    let by : Bytes a.s.now = record { each = λ i. omega (arith, c.type_inv.s i) } in
    let e : 8 * (a.p / 8) + o ≡ a.p = omega arith in
    let f = field_in_window a.s.now (a.p / 8) o a.w (24 - (o + a.w)) by (omega arith) (omega arith) in (
      rw (c.power.ensures.0, c.after.ensures, c.window.ensures.0) (sym (rw e at f)),
      rw c.power.ensures.0 (mod-lt _ (pow_pos a.w)),
    )
