-- `parse`: each test of the definition, in its order.
use mathlib.Core.Path.{◌≡◌, ◌∙◌}
use Prim.Native.Nat.{◌+◌}
use lib.ListN.{length}
use borrow.Author.Tests.{lt-ltb, le-ltb, eq-eqb, ne_eqb}
use Rattle.bits.specs.Bits.{bits_of, field}
use Rattle.refusal.specs.Rows
use Rattle.table.specs.File.{one}
use Rattle.table.specs.Reader.{header_at, header_rows}
use Rattle.table_header.proofs.Sound.{header_is}
use native.Mathlib.Omega.{arith}
use Rattle.table_header.proofs.parse.Goals as goal

pub returns-then-file-lt2 : goal.returns-then-file-lt2
unfolding header_rows
returns-then-file-lt2 c = simp (lt-ltb (length c.args.file.now) 2 (omega arith))

pub returns-then-nibble-ne1 : goal.returns-then-nibble-ne1
unfolding header_rows
returns-then-nibble-ne1 c =
    let s = c.args.file.now in
    let B = bits_of s in
    c.into.ensures ∙ simp (le-ltb (length s) 2 (omega arith), ne_eqb (field B 0 4) 1 (omega arith))

pub returns-then-header : goal.returns-then-header
unfolding header_rows header_at
returns-then-header c =
    let s = c.args.file.now in
    let B = bits_of s in
    simp (
      le-ltb (length s) 2 (omega arith),
      eq-eqb (field B 0 4) 1 (omega arith),
      lt-ltb (field B 8 4 + 1) (field B 4 4 + 1) (omega arith),
    )

pub returns-then-header-eq0 : goal.returns-then-header-eq0
unfolding header_rows header_at
returns-then-header-eq0 c =
    let s = c.args.file.now in
    let B = bits_of s in
    simp (
      le-ltb (length s) 2 (omega arith),
      eq-eqb (field B 0 4) 1 (omega arith),
      le-ltb (field B 8 4 + 1) (field B 4 4 + 1) (omega arith),
      eq-eqb (field B 12 4) 0 (omega arith),
    )

pub returns : goal.returns
unfolding header_rows header_at
returns c =
    let s = c.args.file.now in
    let B = bits_of s in
    let sound : Rows.refused (header_rows one (header_at one B) s) ≡ 0 = simp (
      le-ltb (length s) 2 (omega arith),
      eq-eqb (field B 0 4) 1 (omega arith),
      le-ltb (field B 8 4 + 1) (field B 4 4 + 1) (omega arith),
      ne_eqb (field B 12 4) 0 (omega arith),
    ) in
    header_is s _ _ _ sound c.nibble-2.ensures.0 c.nibble-3.ensures.0 c.nibble-4.ensures.0
