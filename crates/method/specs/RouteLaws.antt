-- What is proved of a route, for every accepted network and every step list: it is a way over the network's arcs, as long as the entry
-- says (law a of the method: no way is shorter), and it ends at the target.
use Rattle.std.specs.Prelude.{◌≡◌, ◌≢◌, List, [], ◌∷◌, ℕ, ◌+◌, ◌<◌, length}
use Rattle.method.specs.Network.{Arc, Net, IsNode, IsArc, Accepted}
use Rattle.method.specs.Steps.{Step, run}
use Rattle.method.specs.Entries.{known, entry}
use Rattle.method.specs.Distinct.{Distinct}
use Rattle.method.specs.Route.{route}

-- each node of a list is reached over an arc from the one before it, the first from i, and the lengths of these arcs add up to s
abbrev pub Over : List Arc → ℕ → List ℕ → ℕ → Type 0
Over ar i [] s = s ≡ 0
Over ar i (x ∷ xs) s = (l : ℕ) × (r : ℕ) × IsArc ar i x l × Over ar x xs r × (s ≡ l + r)

-- the last node of a list, i where it is empty
abbrev pub last_of : ℕ → List ℕ → ℕ
last_of i [] = i
last_of i (x ∷ xs) = last_of x xs

-- the route after the steps bs from node i to y, where i's entry for y is the distance d by h
pub record Arrives (net : Net) (bs : List Step) (i y d h : ℕ) : Type 0 where
  -- it is empty where i is y, and else begins with the first hop, and goes on as the route from there
  pub here : i ≡ y → route (run net bs) y i ≡ []
  pub next : i ≢ y → route (run net bs) y i ≡ h ∷ route (run net bs) y h
  -- it goes over arcs of the network, and their lengths add up to the distance
  pub over_arcs : Over net.arcs i (route (run net bs) y i) d
  -- it ends at the target
  pub ends : last_of i (route (run net bs) y i) ≡ y
  -- no node stands twice, nor i in it; so it has at most n − 1 nodes
  pub no_twice : Distinct (i ∷ route (run net bs) y i)
  pub few : length (route (run net bs) y i) < net.n

pub record RouteLaws (net : Net) : Type 0 where
  -- "Following first hops from any filled entry reaches the target"
  pub arrives : Accepted net → (bs : List Step) (i y d h : ℕ) → IsNode net.n i → entry net bs i y ≡ known d h → Arrives net bs i y d h
