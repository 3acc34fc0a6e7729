-- `record_at`: three bytes, two, or too few.
use mathlib.Core.Path.{◌≡◌, sym}
use Prim.Native.Nat.{◌+◌, ◌-◌, ◌*◌, ◌/◌, ◌%◌, ◌<◌}
use lib.ListN.{length}
use borrow.Author.Tests.{lt-ltb, le-ltb}
use Rattle.bits.specs.Bits.{bits_of, Bytes}
use Rattle.bits.proofs.Bytes.{length_bits}
use Rattle.bits.proofs.ThreeBytes.{field_in_window, field_in_two}
use Rattle.table_records.specs.Parts.{bits_standing}
use native.Mathlib.Omega.{arith}
use Rattle.table_records.proofs.record_at.Goals as goal
use Rattle.table_records.proofs.record_at.Goals.{then-file-k-via-then-file-k, then-file-k-via-else-file-k+then-p-gt3}

pub returns-then-k-file : goal.returns-then-k-file
unfolding bits_standing
returns-then-k-file c =
    let a = c.args in
    let s = a.file.now in
    let p = a.p in
    let by : Bytes s = record { each = λ i. omega (arith, c.type_inv.file i) } in
    let e : 8 * (p / 8) + p % 8 ≡ p = omega arith in
    let f = field_in_window s (p / 8) (p % 8) 13 (11 - p % 8) by (omega arith) (omega arith) in
    (simp (le-ltb (length (bits_of s)) (p + 13) (omega (arith, length_bits s))) (rw c.three.ensures.0 (sym (rw e at f))), omega arith)

pub returns-then-file-k : goal.returns-then-file-k
unfolding bits_standing
returns-then-file-k c =
    let a = c.args in
    let s = a.file.now in
    let short : length (bits_of s) < a.p + 13 = elim c.then-file-k.branch [
      | then-file-k-via-then-file-k w ↦ omega (arith, length_bits s, w.if-file-k.true)
      | then-file-k-via-else-file-k+then-p-gt3 w ↦ omega (arith, length_bits s, w.if-p-gt3.true, c.if-k-file.false)
    ] in
    (simp (lt-ltb (length (bits_of s)) (a.p + 13) short), omega arith)

pub returns : goal.returns
unfolding bits_standing
returns c =
    let a = c.args in
    let s = a.file.now in
    let p = a.p in
    let by : Bytes s = record { each = λ i. omega (arith, c.type_inv.file i) } in
    let e : 8 * (p / 8) + p % 8 ≡ p = omega arith in
    let f = field_in_two s (p / 8) (p % 8) 13 (3 - p % 8) by (omega arith) (omega arith) in
    (simp (le-ltb (length (bits_of s)) (p + 13) (omega (arith, length_bits s))) (rw c.two.ensures.0 (sym (rw e at f))), omega arith)
