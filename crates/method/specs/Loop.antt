-- Request K9, "Wired links that cost nothing": loops of zero arcs, the test for one, and the way along first hops.
use Rattle.std.specs.Prelude.{◌≡◌, Bool, true, false, ◌&&◌, ◌||◌, List, [], ◌∷◌, ℕ, zero, suc, ◌+◌, eqb, if◌then◌else◌}
use Rattle.method.specs.Network.{Arc, Net, IsArc}
use Rattle.method.specs.Rules.{Node}
use Rattle.method.specs.Entries.{known, entry_of}

-- one or more arcs of length 0, each from where the one before it leads, lead from i to k
pub data Zeros (ar : List Arc) : ℕ → ℕ → Type 0 where
  one : {i k : ℕ} → IsArc ar i k 0 → Zeros ar i k
  more : {i k : ℕ} (j : ℕ) → IsArc ar i j 0 → Zeros ar j k → Zeros ar i k

-- "a loop of zero arcs exists"
abbrev pub ZeroLoop : Net → Type 0
ZeroLoop net = (i : ℕ) × Zeros net.arcs i i

-- "no loop consists of such arcs only"
abbrev pub Loopless : Net → Type 0
Loopless net = (i : ℕ) → Zeros net.arcs i i → ⊥

-- a zero arc leads from i to a node that passes the test
abbrev pub zero_to : List Arc → ℕ → (ℕ → Bool) → Bool
zero_to [] i f = false
zero_to (a ∷ ar) i f = (eqb a.tail i && (eqb a.len 0 && f a.head)) || zero_to ar i f

-- from i one can go over r zero arcs, one after the other
abbrev pub zeros_far : List Arc → ℕ → ℕ → Bool
zeros_far ar zero i = true
zeros_far ar (suc r) i = zero_to ar i (zeros_far ar r)

-- over how many zero arcs, k at most, one can go from i
abbrev pub depth : List Arc → ℕ → ℕ → ℕ
depth ar zero i = 0
depth ar (suc k) i = if zeros_far ar (suc k) i then suc (depth ar k i) else depth ar k i

-- one of the nodes 1 to k passes the test
abbrev pub some_node : (ℕ → Bool) → ℕ → Bool
some_node f zero = false
some_node f (suc k) = f (suc k) || some_node f k

-- from some node one can go over n zero arcs: this finds a loop of them (law p_test)
abbrev pub zero_loop : Net → Bool
zero_loop net = some_node (zeros_far net.arcs net.n) net.n

-- Following first hops from node i, whose entry for y has the distance d, passes the nodes xs and ends at y: each hop goes over an arc
-- of the network to a node whose own entry for y is filled, and is less by the arc's length.
abbrev pub Way : Net → (ℕ → Node) → ℕ → ℕ → ℕ → List ℕ → Type 0
Way net nodes y i d [] = (i ≡ y) × (entry_of (nodes i) y ≡ known d 0) × (d ≡ 0)
Way net nodes y i d (h ∷ xs) =
    (l : ℕ) × (r : ℕ) × (entry_of (nodes i) y ≡ known d h) × IsArc net.arcs i h l × (d ≡ l + r) × Way net nodes y h r xs
