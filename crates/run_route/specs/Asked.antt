-- What is asked of the state to follow a route.
use Rattle.std.specs.Prelude.{◌≡◌, List, ℕ}
use Rattle.method.specs.Network.{IsNode, Accepted}
use Rattle.method.specs.Steps.{Counts}
use Rattle.method.specs.Entries.{known, entry_of}
use Rattle.network.specs.declared.Layout.{Layout}
use Rattle.network.specs.Layout.{net_of}
use Rattle.run_cells.specs.Part.{Part, state_of}
use Rattle.run.specs.Ran.{Ran}

-- the state is what a run over an accepted network has left, and i and y are nodes of that
pub record Asked (m : ℕ → Part) (i y : ℕ) : Type 0 where
  pub net : Layout
  pub bytes : List ℕ
  pub counts : Counts
  pub accepted : Accepted (net_of net)
  pub ran : Ran net bytes m counts
  pub node : IsNode (net_of net).n i
  pub target : IsNode (net_of net).n y

-- and i's entry for y is filled
pub record OnWay (m : ℕ → Part) (i y : ℕ) : Type 0 where
  pub asked : Asked m i y
  pub distance : ℕ
  pub hop : ℕ
  pub filled : entry_of (state_of m i).node y ≡ known distance hop
