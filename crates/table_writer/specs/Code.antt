-- What the parts of the writer store, as the numbers that they hold.
use Rattle.std.specs.Prelude.{ℕ, ◌+◌, ◌-◌, ◌*◌, ◌/◌, ◌%◌, ◌^◌, ◌≡◌, List, [], ◌∷◌, ◌++◌, set, take, drop, leb}
use Rattle.std.specs.Prelude.{if◌then◌else◌}
use Rattle.bits.specs.Bits.{as_bits, bits_of}
use Rattle.method.specs.Rules.{Filled}
use Rattle.method.specs.Entries.{last_distance}
use Rattle.table.specs.File.{Form, record_bits}

-- a 1 and three fields of 4 bits: a record in 13 bits, a header in 16
abbrev pub three_fields : ℕ → ℕ → ℕ → ℕ
three_fields a b c = ((16 + a % 16) * 16 + b % 16) * 16 + c % 16

-- the bits of records, without a header
unfoldable pub records_bits : Form → List Filled → List ℕ
records_bits f [] = []
records_bits f (e ∷ es) = records_bits f es ++ record_bits f (last_distance es) e

-- the room with the whole bytes of the n bits x stored from byte k on: two where n is from 16 on, else one
unfoldable pub flushed : List ℕ → ℕ → ℕ → ℕ → List ℕ
flushed room k n x =
    if leb 16 n then set (set room k (x / 2 ^ (n - 8) % 256)) (k + 1) (x / 2 ^ (n - 16) % 256)
    else set room k (x / 2 ^ (n - 8) % 256)

-- a writer on its way: of the bits F the first k bytes stand in the room, n bits are held, the last of x, and the rest is as before
pub record Pending (before room : List ℕ) (k n x : ℕ) (F : List ℕ) : Type 0 where
  pub bits : bits_of (take k room) ++ as_bits n x ≡ F
  pub rest : drop k room ≡ drop k before
