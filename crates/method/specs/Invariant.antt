-- What holds of every node in every run, and what it is said with: the run's code keeps it, and the laws follow from it.
use Rattle.std.specs.Prelude.{◌≡◌, ◌⊎◌, List, [], ◌∷◌, ℕ, suc, ◌+◌, ◌-◌, ◌*◌, ◌≤◌, ◌<◌, length}
use Rattle.std.proofs.Math.Option.{Option}
use Rattle.method.specs.Distinct.{Among}
use Rattle.method.specs.Network.{Arc, Net, IsArc}
use Rattle.method.specs.Distance.{Chain, Distance, Right}
use Rattle.method.specs.Message.{Msg, label, len, end, finite, last_len, item}
use Rattle.method.specs.Rules.{Filled, Phase, unstarted, started, stopped, Node}
use Rattle.method.specs.Work.{Site, heard, next}
use Rattle.method.specs.Steps.{State, sents}
use Rattle.method.specs.Entries.{last_distance}
use Rattle.method.specs.Laws.{Waits}

-- the entry is in the table
abbrev pub In : Filled → List Filled → Type 0
In e [] = ⊥
In e (f ∷ es) = (e ≡ f) ⊎ In e es

-- the targets of a table
abbrev pub targets : List Filled → List ℕ
targets [] = []
targets (e ∷ es) = e.target ∷ targets es

-- y has an entry
abbrev pub Has : ℕ → List Filled → Type 0
Has y es = Among y (targets es)

-- distances rise, by no more than LMAX from an entry to the next; the first is no more than LMAX
abbrev pub Paced : ℕ → List Filled → Type 0
Paced lmax [] = Unit {0}
Paced lmax (e ∷ es) = (last_distance es ≤ e.distance) × (e.distance ≤ last_distance es + lmax) × Paced lmax es

-- the labels of a list, and how many lengths and ends it has
abbrev pub labels : List Msg → List ℕ
labels [] = []
labels (label y ∷ s) = y ∷ labels s
labels (len x ∷ s) = labels s
labels (end ∷ s) = labels s

abbrev pub lengths : List Msg → ℕ
lengths [] = 0
lengths (label y ∷ s) = lengths s
lengths (len x ∷ s) = suc (lengths s)
lengths (end ∷ s) = lengths s

abbrev pub ends : List Msg → ℕ
ends [] = 0
ends (label y ∷ s) = ends s
ends (len x ∷ s) = ends s
ends (end ∷ s) = suc (ends s)

abbrev pub Labelled : ℕ → List Msg → Type 0
Labelled y s = Among y (labels s)

-- every node nearer to j than x is labelled
abbrev pub Complete : List Arc → ℕ → ℕ → List Msg → Type 0
Complete ar j x s = (y d : ℕ) → Chain ar j y d → d < x → Labelled y s

-- A label is new and as far from j as the length in force; a length rises, and all that is nearer is labelled; before the end all is.
abbrev pub Good : List Arc → ℕ → List Msg → Type 0
Good ar j [] = Unit {0}
Good ar j (label y ∷ s) = Good ar j s × Distance ar j y (last_len s) × (Labelled y s → ⊥)
Good ar j (len x ∷ s) = Good ar j s × (last_len s < x) × Complete ar j x s
Good ar j (end ∷ s) = Good ar j s × ((y d : ℕ) → Chain ar j y d → Labelled y s)

-- how many ends a node has sent
abbrev pub ends_sent : Phase → ℕ
ends_sent unstarted = 0
ends_sent started = 0
ends_sent stopped = 1

-- what holds of node i in every run; `T h` is what its arc to h has taken
pub record Ok (net : Net) (i : ℕ) (T : ℕ → List Msg) (nd : Node) : Type 0 where
  -- what it has sent is true, and it has sent the label of each entry; an entry is right, and no nearer one is to come
  pub good : Good net.arcs i nd.sent
  pub each : labels nd.sent ≡ targets nd.table
  pub right : (e : Filled) → In e nd.table → Right net i e.target e.distance e.hop
  pub front : (j l v : ℕ) → IsArc net.arcs i j l → item (T j) ≡ finite v → last_len nd.sent ≤ l + v
  -- a label that it has taken has an entry, and an entry's label was taken from its hop
  pub heard : (j y : ℕ) → Labelled y (T j) → Has y nd.table
  pub traced : (e : Filled) → In e nd.table → (e.target ≡ i) ⊎ Labelled e.target (T e.hop)
  -- LP is the distance of the last entry, no more than the last length sent; entries come by rising distance
  pub pace : Paced net.lmax nd.table
  pub last : last_distance nd.table ≡ nd.lp
  pub spoken : nd.lp ≤ last_len nd.sent
  -- how far it has come with so many entries
  pub reach : (nd.phase ≡ unstarted → ⊥) → nd.lp + net.lmax ≤ length nd.table * net.lmax
  pub far : last_len nd.sent ≤ length nd.table * net.lmax
  -- its phase shows: nothing before the start, its own entry after it, the end at the stop
  pub blank : nd.phase ≡ unstarted → (nd.sent ≡ []) × (nd.table ≡ [])
  pub own : (nd.phase ≡ unstarted → ⊥) → Has i nd.table
  pub shut : nd.phase ≡ stopped → (s : List Msg) × (nd.sent ≡ end ∷ s)
  pub ended : ends nd.sent ≡ ends_sent nd.phase

-- a node that waits, when its arc to h has taken T h
abbrev pub Waiting : Net → ℕ → (ℕ → List Msg) → (ℕ → Option Msg) → Node → Type 0
Waiting net i T more nd = Waits net i (λ h. item (T h)) more nd

-- what holds of node i with its arcs, beside the sent lists `ss` of all nodes
pub record SiteOk (net : Net) (i : ℕ) (ss : ℕ → List Msg) (s : Site) : Type 0 where
  pub ok : Ok net i (heard ss s) s.node
  pub taken_le : (h : ℕ) → s.taken h ≤ s.delivered h
  pub delivered_le : (h : ℕ) → s.delivered h ≤ length (ss h)

-- what holds of a node between two steps
pub record AtRest (net : Net) (i : ℕ) (ss : ℕ → List Msg) (s : Site) : Type 0 where
  pub site : SiteOk net i ss s
  pub waits : s.node.phase ≡ started → Waiting net i (heard ss s) (next ss s) s.node

-- what holds of a state
abbrev pub Inv : Net → State → Type 0
Inv net st = (i : ℕ) → AtRest net i (sents st) (st i)

-- no arc from i is shorter than m
abbrev pub AtLeast : Net → ℕ → ℕ → Type 0
AtLeast net i m = (j l : ℕ) → IsArc net.arcs i j l → m ≤ l

-- what bounds the lengths that node i sends
pub record Spread (net : Net) (i : ℕ) (nd : Node) : Type 0 where
  -- a sum beyond LP + LMAX is never sent
  pub last_le : last_len nd.sent ≤ nd.lp + net.lmax
  -- the first entry beside its own is no farther than any arc is long, and each next one LMAX farther at most
  pub lp_le : (j l : ℕ) → IsArc net.arcs i j l → nd.lp ≤ l + (length nd.table - 2) * net.lmax
  -- lengths rise, and each is a sum with an arc's length in it: so they are as many as there are numbers from the shortest to the last
  pub many : (m : ℕ) → AtLeast net i m → lengths nd.sent ≤ suc (last_len nd.sent) - m
