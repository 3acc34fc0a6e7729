-- `ending_at`: each test of the definition, in its order.
use mathlib.Core.Path.{refl}
use Prim.Native.Nat.{◌+◌, ◌-◌, ◌%◌}
use lib.ListN.{length}
use borrow.Author.Tests.{lt-ltb, le-ltb, eq-eqb, ne_eqb}
use Rattle.bits.specs.Bits.{bits_of, field}
use Rattle.bits.proofs.Bytes.{length_bits}
use Rattle.table.specs.Reader.{end_rows}
use Rattle.table_records.proofs.ByteRest.{begins_with_1, begins_with_0}
use native.Mathlib.Omega.{arith}
use Rattle.table_records.proofs.ending_at.Goals as goal

pub returns-then-file-p : goal.returns-then-file-p
unfolding end_rows
returns-then-file-p c =
    let a = c.args in
    let s = a.file.now in
    simp (le-ltb a.p (length (bits_of s)) (omega (arith, length_bits s))) (refl, refl)

pub returns-then-power-rest : goal.returns-then-power-rest
unfolding end_rows
returns-then-power-rest c =
    let a = c.args in
    let s = a.file.now in
    simp (
      lt-ltb a.p (length (bits_of s)) (omega (arith, length_bits s)),
      ne_eqb (field (bits_of s) a.p 1) 0
          (begins_with_1 s a.p _ (omega arith) c.rest_of_byte-rest.ensures (omega (arith, c.power.ensures.0))),
    ) (refl, refl)

pub returns-then-rest-ne0 : goal.returns-then-rest-ne0
unfolding end_rows
returns-then-rest-ne0 c =
    let a = c.args in
    let s = a.file.now in
    let z = begins_with_0 s a.p _ (omega arith) c.rest_of_byte-rest.ensures
    (omega (arith, c.power.ensures.0)) in
    simp (
      lt-ltb a.p (length (bits_of s)) (omega (arith, length_bits s)),
      eq-eqb (field (bits_of s) a.p 1) 0 z.0,
      ne_eqb (field (bits_of s) (a.p + 1) (7 - a.p % 8)) 0 (omega (arith, z.1)),
      c.first_one.ensures,
    )

pub returns-then-p-file : goal.returns-then-p-file
unfolding end_rows
returns-then-p-file c =
    let a = c.args in
    let s = a.file.now in
    let z = begins_with_0 s a.p _ (omega arith) c.rest_of_byte-rest.ensures
    (omega (arith, c.power.ensures.0)) in
    simp (
      lt-ltb a.p (length (bits_of s)) (omega (arith, length_bits s)),
      eq-eqb (field (bits_of s) a.p 1) 0 z.0,
      eq-eqb (field (bits_of s) (a.p + 1) (7 - a.p % 8)) 0 (omega (arith, z.1)),
      lt-ltb (a.p + (8 - a.p % 8)) (length (bits_of s)) (omega (arith, length_bits s)),
    )

pub returns : goal.returns
unfolding end_rows
returns c =
    let a = c.args in
    let s = a.file.now in
    let z = begins_with_0 s a.p _ (omega arith) c.rest_of_byte-rest.ensures
    (omega (arith, c.power.ensures.0)) in
    simp (
      lt-ltb a.p (length (bits_of s)) (omega (arith, length_bits s)),
      eq-eqb (field (bits_of s) a.p 1) 0 z.0,
      eq-eqb (field (bits_of s) (a.p + 1) (7 - a.p % 8)) 0 (omega (arith, z.1)),
      le-ltb (a.p + (8 - a.p % 8)) (length (bits_of s)) (omega (arith, length_bits s)),
    ) (refl, refl)
