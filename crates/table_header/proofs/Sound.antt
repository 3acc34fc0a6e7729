-- A sound header, and its numbers.
use mathlib.Core.Path.{◌≡◌}
use mathlib.Core.List.{List}
use Prim.Native.Nat.{ℕ, ◌+◌, ◌≤◌}
use native.Mathlib.Omega.{arith}
use lib.ListN.{length}
use Rattle.bits.specs.Bits.{bits_of, field}
use Rattle.bits.proofs.Bytes.{field_below}
use Rattle.refusal.specs.Rows
use Rattle.refusal.proofs.Rows.{clear}
use Rattle.table.specs.File.{one, header_of}
use Rattle.table.specs.Reader.{header_at, header_rows}
use Rattle.table.proofs.Walk.{header_sound}
use Rattle.table_header.specs.HasHeader.{HasHeader}

-- the numbers of the header from its fields
pub header_is : (s : List ℕ) (o m l : ℕ) → Rows.refused (header_rows one (header_at one (bits_of s)) s) ≡ 0 → o ≡ field (bits_of s) 4 4
    → m ≡ field (bits_of s) 8 4 → l ≡ field (bits_of s) 12 4
    → HasHeader s (header_of (o + 1) (m + 1) l)
unfolding header_at
header_is s o m l z eo em el =
    let same : header_at one (bits_of s) ≡ header_of (o + 1) (m + 1) l = rw (eo, em, el) in
    record {
      sound = z;
      same = same;
      own = (
        omega arith,
        (header_sound one (header_of (o + 1) (m + 1) l) s
            (clear (header_rows one (header_of (o + 1) (m + 1) l) s) (rw same at z))).1,
      );
      small = (omega (arith, field_below s 8 4), omega (arith, field_below s 12 4));
    }
