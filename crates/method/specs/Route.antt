-- "Following first hops from any filled entry reaches the target": the nodes that are passed.
use Rattle.std.specs.Prelude.{List, [], ◌∷◌, ℕ, zero, suc, eqb, if◌then◌else◌}
use Rattle.method.specs.Steps.{State}
use Rattle.method.specs.Marks.{distance_of, hop_of}
use Rattle.method.specs.Entries.{Entry, unknown, unreachable, known, entry_of}

abbrev pub distance_to : State → ℕ → ℕ → ℕ
distance_to st y i = distance_of (entry_of (st i).node y)

abbrev pub hop_to : State → ℕ → ℕ → ℕ
hop_to st y i = hop_of (entry_of (st i).node y)

-- the nodes after i on the way to y, k at most
unfoldable pub hops : State → ℕ → ℕ → ℕ → List ℕ
hops st y zero i = []
hops st y (suc k) i = if eqb i y then [] else (hop_to st y i ∷ hops st y k (hop_to st y i))

-- all of them, asked for only where i's entry is filled: each hop is nearer, so they are no more than the distance
unfoldable pub route : State → ℕ → ℕ → List ℕ
unfolding hops
route st y i = hops st y (distance_to st y i) i

-- the nodes that are passed: none where the entry is unknown or unreachable, or i is y
abbrev pub passed : Entry → List ℕ → List ℕ
passed unknown xs = []
passed unreachable xs = []
passed (known d h) xs = xs

abbrev pub way : State → ℕ → ℕ → List ℕ
way st y i = passed (entry_of (st i).node y) (route st y i)
