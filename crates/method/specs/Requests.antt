-- What is proved of the method for later requests, for every step list: laws n to p. As in laws a to m, each says what it asks of the
-- network; none asks for positive lengths.
use Rattle.std.specs.Prelude.{◌≡◌, ◌⊎◌, ◌↔◌, true, List, ◌∷◌, ◌++◌, ℕ, ◌≤◌, ◌<◌, length}
use Rattle.method.specs.Distinct.{Distinct}
use Rattle.method.specs.Network.{Net, IsNode, IsArc, Sizes, Valid, Positive, Ranked}
use Rattle.method.specs.Steps.{Step, byte_step, taken, step, run}
use Rattle.method.specs.Entries.{known, nodes, entry, Stopped, records}
use Rattle.method.specs.Order.{Begins, AllLed}
use Rattle.method.specs.Loop.{ZeroLoop, Loopless, depth, zero_loop, Way}

pub record Requests (net : Net) : Type 0 where
  -- n. (K10) Of a node's records after two step lists, one list is the beginning of the other; two runs in which the node has stopped
  -- have the same.
  pub n_orders : Valid net → Ranked net → (bs cs : List Step) (i : ℕ)
      → Begins (records net bs i) (records net cs i) ⊎ Begins (records net cs i) (records net bs i)
  pub n_stopped : Valid net → Ranked net → (bs cs : List Step) (i : ℕ) → Stopped net bs i → Stopped net cs i
      → records net bs i ≡ records net cs i
  -- o. (K5) The first hop of each record is its target, or the target of an earlier record whose own first hop was itself.
  pub o_led : Valid net → Ranked net → (bs : List Step) (i : ℕ) → AllLed (records net bs i)
  -- p. (K9) Law e where no loop consists of zero arcs only.
  pub p_some_step : Sizes net → Valid net → Loopless net → (bs : List Step) (i : ℕ) → IsNode net.n i → (Stopped net bs i → ⊥)
      → (b : ℕ) × (b ≤ 255) × ((step net (run net bs) (byte_step b)).kind ≡ taken)
  pub p_ends : Valid net → Loopless net → (bs : List Step) → (cs : List Step) × ((i : ℕ) → IsNode net.n i → Stopped net (bs ++ cs) i)
  -- "Following first hops still reaches the target, though the distance may stand still on a hop." No node is passed twice, so there
  -- are fewer hops than nodes.
  pub p_hops_lead : Valid net → Loopless net → (bs : List Step) (i y d h : ℕ) → entry net bs i y ≡ known d h
      → (xs : List ℕ) × Way net (nodes net bs) y i d xs × Distinct (i ∷ xs)
  pub p_few_hops : Valid net → (bs : List Step) (i y d : ℕ) (xs : List ℕ) → IsNode net.n i → Way net (nodes net bs) y i d xs
      → Distinct (i ∷ xs) → length xs < net.n
  -- Such a hop over a zero arc goes to a node of less depth; no node is as deep as n.
  pub p_depth_falls : Valid net → Loopless net → (i j : ℕ) → IsArc net.arcs i j 0
      → depth net.arcs net.n j < depth net.arcs net.n i
  pub p_depth : Valid net → Loopless net → (i : ℕ) → IsNode net.n i → depth net.arcs net.n i < net.n
  -- The test of refusal 21 answers exactly whether a loop of zero arcs exists; where all lengths are positive, none does.
  pub p_test : Valid net → (zero_loop net ≡ true) ↔ ZeroLoop net
  pub p_positive : Positive net → Loopless net
