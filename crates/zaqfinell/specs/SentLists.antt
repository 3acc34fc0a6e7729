-- Request K6: an accepted network runs every list of steps, since no sent list runs out of room. How long sent lists get, over what the
-- calls take; that no call has a refusal for it is in `Numbers`.
use Rattle.std.specs.Prelude.{◌≡◌, List, [], ◌∷◌, ℕ, zero, suc, ◌≤◌, length}
use Rattle.method.specs.Network.{Arc, IsNode}
use Rattle.method.specs.Steps.{sents}
use Rattle.method.specs.Bounds.{most_sent}
use Rattle.network.specs.Refusal.{as_arc}
use Rattle.network.specs.Checked.{Checked, IsAccepted, from_bytes, from_list}
use Rattle.call.specs.Calls.{nodes_of, state_after}

-- how many messages node i has sent after the steps
abbrev pub sent_by : Checked → List ℕ → ℕ → ℕ
sent_by net bs i = length (sents (state_after net bs) i)

-- the sent lists of an accepted network, after any steps
pub record FewSent (net : Checked) : Type 0 where
  pub sent : (bs : List ℕ) (i : ℕ) → IsNode (nodes_of net) i → sent_by net bs i ≤ most_sent net.meant
  -- so no list ever has a 258th message
  pub at_most_243 : (bs : List ℕ) (i : ℕ) → IsNode (nodes_of net) i → sent_by net bs i ≤ 243

-- a small house in which node 1 sends as many: 1 and 2 hear each other at length 1, and 2 hears 3 at length 2, which is LMAX
abbrev pub line : Checked
line = from_list 3 2 (as_arc 1 2 1 ∷ as_arc 2 1 1 ∷ as_arc 2 3 2 ∷ [])

-- its three arcs in turn, k times
abbrev pub rounds : ℕ → List ℕ
rounds zero = []
rounds (suc k) = 16 ∷ 17 ∷ 18 ∷ rounds k

-- every node starts, then nine rounds
abbrev pub line_steps : List ℕ
line_steps = 0 ∷ 1 ∷ 2 ∷ rounds 9

pub record SentLists : Type 0 where
  -- however the network is handed over
  pub bytes : (s : List ℕ) → IsAccepted (from_bytes s) → FewSent (from_bytes s)
  pub list : (n lmax : ℕ) (ar : List Arc) → IsAccepted (from_list n lmax ar) → FewSent (from_list n lmax ar)
  -- the bound is reached: 9 messages where n is 3 and LMAX is 2
  pub line_accepted : IsAccepted line
  pub reached : sent_by line line_steps 1 ≡ most_sent line.meant
