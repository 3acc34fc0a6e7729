-- 01, "The bench program": the lines that it writes, byte for byte.
use Rattle.std.specs.Prelude.{List, [], ◌∷◌, ◌++◌, ℕ, zero, suc}
use Prim.Native.Char.{code}
use Prim.Native.String.{String, [] as noText, ◌∷◌ as ◌then◌}
use Rattle.method.specs.Entries.{Entry, unknown, unreachable, known}
use Rattle.house_words.specs.Decimal.{decimal}

-- the bytes of a text in ASCII
abbrev pub bytes : String → List ℕ
bytes noText = []
bytes (c then s) = code c ∷ bytes s

-- a word with a number after it
abbrev pub numbered : String → ℕ → List ℕ
numbered word x = bytes word ++ decimal x

-- `taken A idle I unknown U stopped S`
abbrev pub counts_line : ℕ → ℕ → ℕ → ℕ → List ℕ
counts_line A I U S = numbered "taken " A ++ numbered " idle " I ++ numbered " unknown " U ++ numbered " stopped " S ++ bytes "\n"

-- `distance hop`: "Unknown is `? ?`, unreachable `- -`."
abbrev pub distance_hop : Entry → List ℕ
distance_hop unknown = bytes "? ?"
distance_hop unreachable = bytes "- -"
distance_hop (known d h) = decimal d ++ numbered " " h

-- `node target distance hop`
abbrev pub entry_line : ℕ → ℕ → Entry → List ℕ
entry_line node target e = decimal node ++ numbered " " target ++ bytes " " ++ distance_hop e ++ bytes "\n"

-- the texts of 1 to n, in rising order
abbrev pub rising : (ℕ → List ℕ) → ℕ → List ℕ
rising text zero = []
rising text (suc n) = rising text n ++ text (suc n)

-- the lines of one node, "for each target in rising order"
abbrev pub node_lines : (ℕ → ℕ → Entry) → ℕ → ℕ → List ℕ
node_lines entry n node = rising (λ target. entry_line node target (entry node target)) n

-- "one line of counts, then for each node and target in rising order" its line
abbrev pub house_text : ℕ → ℕ → ℕ → ℕ → ℕ → (ℕ → ℕ → Entry) → List ℕ
house_text A I U S n entry = counts_line A I U S ++ rising (node_lines entry n) n

-- "A refusal is the one line `refused N`."
abbrev pub refused_line : ℕ → List ℕ
refused_line N = numbered "refused " N ++ bytes "\n"
