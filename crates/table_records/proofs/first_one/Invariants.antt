-- `first_one`: the bits that are left tell what all do.
use mathlib.Core.Path.{◌≡◌}
use Prim.Native.Nat.{◌+◌, ◌-◌}
use Rattle.bits.specs.Bits.{bits_of}
use Rattle.table.specs.Reader.{first_one}
use Rattle.table_records.proofs.first_one.Given as goal

abbrev pub invariant-loop-q : goal.invariant-loop-q
invariant-loop-q l = first_one (bits_of l.file) (l.p + l.w - l.q) l.q ≡ first_one (bits_of l.file) l.w l.p
