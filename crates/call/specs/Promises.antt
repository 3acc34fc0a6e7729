-- What each public call that takes a network promises: `net` is what the check finds of the network, which the calls with `_arcs` take as
-- an arc list and those without as bytes; `bs` are the step bytes, `i` a node, `y` a target, `r` the answer, and a room's name with ' is
-- what the room holds after the call. The calls' own `ensures` say just this.
use Rattle.std.specs.Prelude.{◌≡◌, List, ℕ, length}
use Rattle.method.specs.Room.{kept_if, begins}
use Rattle.network.specs.Checked.{Checked}
use Rattle.call.specs.Calls.{write_answer, write_room, run_refusal, counts_after, entries_after, entry_answer, route_answer, route_room}
use Rattle.call.specs.Calls.{pack_answer, pack_room, most_answer}

-- zaq_check_network, zaq_check_arcs
abbrev pub CheckPromise : Checked → ℕ → Type 0
CheckPromise net r = r ≡ net.refused

-- zaq_write_table, zaq_write_table_arcs
pub record WritePromise (net : Checked) (bs : List ℕ) (i : ℕ) (room : List ℕ) (r : ℕ) (room' : List ℕ) : Type 0 where
  pub answer : r ≡ write_answer net bs i room
  pub left : room' ≡ write_room net bs i room

-- zaq_run, zaq_run_arcs
pub record RunPromise (net : Checked) (bs counts entries : List ℕ) (r : ℕ) (counts' entries' : List ℕ) : Type 0 where
  pub answer : r ≡ run_refusal net (length entries)
  pub counted : counts' ≡ kept_if (run_refusal net (length entries)) counts (begins (counts_after net bs) counts)
  pub left : entries' ≡ kept_if (run_refusal net (length entries)) entries (begins (entries_after net bs) entries)

-- zaq_most_taken, zaq_most_taken_arcs
abbrev pub MostPromise : Checked → ℕ → Type 0
MostPromise net r = r ≡ most_answer net

-- zaq_entry, zaq_entry_arcs
abbrev pub EntryPromise : Checked → List ℕ → ℕ → ℕ → ℕ → Type 0
EntryPromise net bs i y r = r ≡ entry_answer net bs i y

-- zaq_route, zaq_route_arcs
pub record RoutePromise (net : Checked) (bs : List ℕ) (i y : ℕ) (room : List ℕ) (r : ℕ) (room' : List ℕ) : Type 0 where
  pub answer : r ≡ route_answer net bs i y room
  pub left : room' ≡ route_room net bs i y room

-- zaq_pack_network
pub record PackPromise (net : Checked) (room : List ℕ) (r : ℕ) (room' : List ℕ) : Type 0 where
  pub answer : r ≡ pack_answer net room
  pub left : room' ≡ pack_room net room
