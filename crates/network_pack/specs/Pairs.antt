-- A network's bytes as they are written: two arcs in three whole bytes, an odd last one with half a byte of zeros.
use Rattle.std.specs.Prelude.{ℕ, ◌+◌, ◌-◌, ◌*◌, List, [], ◌∷◌}
use Rattle.method.specs.Network.{Arc}

-- two fields of 4 bits in a byte
abbrev pub halves : ℕ → ℕ → ℕ
halves x y = 16 * x + y

-- the bytes of arcs: two tails, heads and lengths are six half bytes
unfoldable pub pair_bytes : List Arc → List ℕ
pair_bytes [] = []
pair_bytes (a ∷ []) = halves (a.tail - 1) (a.head - 1) ∷ halves a.len 0 ∷ []
pair_bytes (a ∷ b ∷ ar) = halves (a.tail - 1) (a.head - 1) ∷ halves a.len (b.tail - 1) ∷ halves (b.head - 1) b.len ∷ pair_bytes ar
