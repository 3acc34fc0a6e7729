-- Request K8: "How long can a bench run get? [..] from a fresh run 01's 'taken' is never more than n plus the number of arcs times
-- (n × LMAX + n + 1), in any order." Over what the calls take and answer.
use Rattle.std.specs.Prelude.{◌≡◌, List, [], ◌∷◌, ℕ, ◌≤◌, length, get_or}
use Rattle.method.specs.Network.{Arc, Net}
use Rattle.method.specs.Steps.{State, fresh, byte_step, Kind, taken, idle, unknown, step}
use Rattle.method.specs.Bounds.{most_taken, most_taken_sharp}
use Rattle.network.specs.Refusal.{as_arc}
use Rattle.network.specs.Checked.{Checked, IsAccepted, from_bytes, from_list}
use Rattle.call.specs.Calls.{state_after, counts_of}
use Rattle.call.specs.Promises.{RunPromise, MostPromise}
use Rattle.zaqfinell.specs.Apart.{most_in}
use Rattle.zaqfinell.specs.SentLists.{rounds}

-- what a recorder keeps that leaves out every step that is idle or unknown
abbrev pub kept_if_taken : Kind → ℕ → List ℕ → List ℕ
kept_if_taken taken b bs = b ∷ bs
kept_if_taken idle b bs = bs
kept_if_taken unknown b bs = bs

abbrev pub taken_from : Net → State → List ℕ → List ℕ
taken_from net st [] = []
taken_from net st (b ∷ bs) = kept_if_taken (step net st (byte_step b)).kind b (taken_from net (step net st (byte_step b)).state bs)

abbrev pub taken_of : Checked → List ℕ → List ℕ
taken_of net bs = taken_from net.meant fresh bs

-- the runs of an accepted network
pub record FewTaken (net : Checked) : Type 0 where
  -- n + arcs × (n × LMAX + n + 1)
  pub most : (bs : List ℕ) → (counts_of net bs).taken ≤ most_taken net.meant
  -- and n + arcs × the most messages that a node sends (K6), which is no more than that
  pub sharp : (bs : List ℕ) → (counts_of net bs).taken ≤ most_taken_sharp net.meant
  pub sharper : most_taken_sharp net.meant ≤ most_taken net.meant
  -- what zaq_run or zaq_run_arcs counts as taken, the first of its counts, is at most what zaq_most_taken or zaq_most_taken_arcs answers
  pub answered : (bs counts entries : List ℕ) (r : ℕ) (counts' entries' : List ℕ) (q : ℕ) → length counts ≡ 4
      → RunPromise net bs counts entries r counts' entries' → r ≡ 0 → MostPromise net q → get_or counts' 0 0 ≤ most_in q
  -- a recorder with room for so many steps loses nothing: what it keeps are as many as were taken, they lead to the same state by
  -- themselves, and each of them is then taken again
  pub kept : (bs : List ℕ) → length (taken_of net bs) ≡ (counts_of net bs).taken
  pub same_state : (bs : List ℕ) → state_after net (taken_of net bs) ≡ state_after net bs
  pub again : (bs : List ℕ) → taken_of net (taken_of net bs) ≡ taken_of net bs
  -- the number is never more than that of the largest house
  pub at_most_61696 : most_taken net.meant ≤ 61696

-- a small house in which as many are taken: three nodes in a ring, each of which hears the next at length 1, which is LMAX
abbrev pub ring : Checked
ring = from_list 3 1 (as_arc 1 2 1 ∷ as_arc 2 3 1 ∷ as_arc 3 1 1 ∷ [])

-- every node starts, then seven rounds
abbrev pub ring_steps : List ℕ
ring_steps = 0 ∷ 1 ∷ 2 ∷ rounds 7

pub record MostTaken : Type 0 where
  -- however the network is handed over
  pub bytes : (s : List ℕ) → IsAccepted (from_bytes s) → FewTaken (from_bytes s)
  pub list : (n lmax : ℕ) (ar : List Arc) → IsAccepted (from_list n lmax ar) → FewTaken (from_list n lmax ar)
  -- both bounds are reached: 3 + 3 × (3 × 1 + 3 + 1) = 24 steps
  pub ring_accepted : IsAccepted ring
  pub reached : (counts_of ring ring_steps).taken ≡ most_taken ring.meant
  pub reached_sharp : (counts_of ring ring_steps).taken ≡ most_taken_sharp ring.meant
