-- A node at work, and what its work makes of its part. `ss j` is the sent list of node j when the work began; of node i's own list
-- nothing is asked, since no arc leads from i to i.
use Rattle.std.specs.Prelude.{◌≡◌, ◌≢◌, List, ℕ, ◌+◌, ◌≤◌, ◌<◌, length}
use Rattle.method.specs.Network.{IsNode}
use Rattle.method.specs.Message.{Msg, last_len}
use Rattle.method.specs.Rules.{started, Node}
use Rattle.method.specs.Work.{work}
use Rattle.method.specs.Steps.{sents}
use Rattle.method.specs.Invariant.{Good, ends_sent, SiteOk}
use Rattle.network.specs.declared.Layout.{Layout}
use Rattle.network.specs.Layout.{net_of}
use Rattle.run_cells.specs.Part.{Part, sent_most, phase_at, waits_at, site_of, state_of}
use Rattle.run_cells.specs.Caches.{Caches}
use Rattle.run_node.specs.Rules.{least}

-- a node's sent list fits: an end has a place to itself, so that one can follow
abbrev pub SentFits : Node → Type 0
SentFits nd = length nd.sent < sent_most + ends_sent nd.phase

pub record Ready (g : Layout) (ss : ℕ → List Msg) (m : ℕ → Part) (i : ℕ) : Type 0 where
  pub node : IsNode (net_of g).n i
  pub same : (j : ℕ) → j ≢ i → sents (state_of m) j ≡ ss j
  pub lists : (j : ℕ) → Good (net_of g).arcs j (ss j)
  pub fits : (j : ℕ) → IsNode (net_of g).n j → (length (ss j) ≤ sent_most) × (last_len (ss j) ≤ 240)
  pub site : SiteOk (net_of g) i ss (site_of (m i))
  -- what it will have sent when its work is done
  pub room : SentFits (work (net_of g) i ss (site_of (m i))).node
  pub up : (site_of (m i)).node.phase ≡ started
  pub caches : Caches g i ss (m i)

abbrev pub Working : Layout → (ℕ → Part) → ℕ → Type 0
Working g m i = (ss : ℕ → List Msg) × Ready g ss m i

-- a started node at rest has the head that it waits for in its place
abbrev pub WaitsFor : Part → Type 0
WaitsFor f = f phase_at ≡ 1 → f waits_at ≡ (least f 16).head

-- node i's part f has become f' by its work
pub record Did (g : Layout) (ss : ℕ → List Msg) (i : ℕ) (f f' : Part) : Type 0 where
  pub site : site_of f' ≡ work (net_of g) i ss (site_of f)
  pub caches : Caches g i ss f'
  pub waits : WaitsFor f'

pub record Worked (g : Layout) (m : ℕ → Part) (i : ℕ) (n : ℕ → Part) : Type 0 where
  pub there : (j : ℕ) → j ≢ i → n j ≡ m j
  pub does : (ss : ℕ → List Msg) → Ready g ss m i → Did g ss i (m i) (n i)
