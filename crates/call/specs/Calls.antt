-- 01, "How tightly the calls are described": of each public call that takes a network, its rows of refusals in 01's order, what it
-- answers, and what it leaves in a lent room. `net` is what the check finds of the network that was handed over, `bs` the step bytes.
use Rattle.std.specs.Prelude.{ℕ, ◌*◌, Bool, true, false, List, [], ◌∷◌, ◌++◌, length}
use Rattle.method.specs.Network.{Net}
use Rattle.method.specs.Rules.{Phase, unstarted, started, stopped}
use Rattle.method.specs.Steps.{State, Counts, Step, steps, run, counts}
use Rattle.method.specs.Entries.{Entry, phase, entry, stopped_to}
use Rattle.method.specs.Bounds.{most_taken}
use Rattle.method.specs.Marks.{distance_of, row_numbers}
use Rattle.method.specs.Route.{way}
use Rattle.method.specs.Room.{kept_if, begins}
use Rattle.refusal.specs.Rows.{Row, ◌when◌, refused, ask_rows, room_rows, ◌else◌}
use Rattle.network.specs.Bytes.{size, bytes_of}
use Rattle.network.specs.Checked.{Checked}
use Rattle.table.specs.File.{one, node_file}
use Rattle.call.specs.Answers.{values, entry_values}

-- the number of nodes
abbrev pub nodes_of : Checked → ℕ
nodes_of net = net.meant.n

-- the state after the steps
abbrev pub state_after : Checked → List ℕ → State
state_after net bs = run net.meant (steps bs)

-- node i's entry for y after the steps
abbrev pub entry_after : Checked → List ℕ → ℕ → ℕ → Entry
entry_after net bs i y = entry net.meant (steps bs) i y

-- "run and write one node's file": "Then 11, [..] 12, 13", in a room of `wide` bytes. No step list is refused.
abbrev pub is_unstarted : Phase → Bool
is_unstarted unstarted = true
is_unstarted started = false
is_unstarted stopped = false

abbrev pub file_after : Checked → List ℕ → ℕ → List ℕ
file_after net bs i = node_file one net.meant (steps bs) i

-- "12, 13"
abbrev pub late_rows : Net → List Step → ℕ → ℕ → List Row
late_rows net bs i wide =
    -- "file wanted of a node not started"
    12 when is_unstarted (phase net bs i)
    -- "the file is longer than the room"
    ∷ room_rows wide (length (node_file one net bs i))

abbrev pub write_rows : Net → List Step → ℕ → ℕ → List Row
write_rows net bs i wide = ask_rows net.n i ++ late_rows net bs i wide

abbrev pub write_refusal : Checked → List ℕ → ℕ → ℕ → ℕ
write_refusal net bs i wide = net.refused else refused (write_rows net.meant (steps bs) i wide)

-- how many bytes were written
abbrev pub write_answer : Checked → List ℕ → ℕ → List ℕ → ℕ
write_answer net bs i room = write_refusal net bs i (length room) else values (length (file_after net bs i)) 0

abbrev pub write_room : Checked → List ℕ → ℕ → List ℕ → List ℕ
write_room net bs i room = kept_if (write_refusal net bs i (length room)) room (begins (file_after net bs i) room)

-- The whole outcome of a run: all entries, row by row, in a room of `wide` numbers, and the counts.
abbrev pub run_rows : Net → ℕ → List Row
run_rows net wide = room_rows wide (2 * (net.n * net.n))

abbrev pub run_refusal : Checked → ℕ → ℕ
run_refusal net wide = net.refused else refused (run_rows net.meant wide)

-- how many steps were taken, idle, unknown, and how many nodes have stopped
abbrev pub counts_of : Checked → List ℕ → Counts
counts_of net bs = counts net.meant (steps bs)

abbrev pub stopped_of : Checked → List ℕ → ℕ
stopped_of net bs = stopped_to (state_after net bs) (nodes_of net)

abbrev pub count_list : Counts → ℕ → List ℕ
count_list c k = c.taken ∷ c.idle ∷ c.unknown ∷ k ∷ []

abbrev pub counts_after : Checked → List ℕ → List ℕ
counts_after net bs = count_list (counts_of net bs) (stopped_of net bs)

-- the entries of every node as numbers
abbrev pub entries_after : Checked → List ℕ → List ℕ
entries_after net bs = row_numbers (entry_after net bs) (nodes_of net) (nodes_of net)

-- How many steps of a run can be taken: 02, K8.
abbrev pub most_answer : Checked → ℕ
most_answer net = net.refused else values (most_taken net.meant) 0

-- One entry: "Then 11", for the node and for the target.
abbrev pub entry_rows : Net → ℕ → ℕ → List Row
entry_rows net i y = ask_rows net.n i ++ ask_rows net.n y

abbrev pub entry_refusal : Checked → ℕ → ℕ → ℕ
entry_refusal net i y = net.refused else refused (entry_rows net.meant i y)

abbrev pub entry_answer : Checked → List ℕ → ℕ → ℕ → ℕ
entry_answer net bs i y = entry_refusal net i y else entry_values (entry_after net bs i y)

-- A route: the nodes after node i on the way to y, y last.
abbrev pub nodes_passed : Checked → List ℕ → ℕ → ℕ → List ℕ
nodes_passed net bs i y = way (state_after net bs) y i

-- 13 comes last
abbrev pub route_rows : Net → List Step → ℕ → ℕ → ℕ → List Row
route_rows net bs i y wide = entry_rows net i y ++ room_rows wide (length (way (run net bs) y i))

abbrev pub route_refusal : Checked → List ℕ → ℕ → ℕ → ℕ → ℕ
route_refusal net bs i y wide = net.refused else refused (route_rows net.meant (steps bs) i y wide)

-- how many there are, and the distance or the mark in its place
abbrev pub route_answer : Checked → List ℕ → ℕ → ℕ → List ℕ → ℕ
route_answer net bs i y room =
    route_refusal net bs i y (length room) else values (length (nodes_passed net bs i y)) (distance_of (entry_after net bs i y))

abbrev pub route_room : Checked → List ℕ → ℕ → ℕ → List ℕ → List ℕ
route_room net bs i y room = kept_if (route_refusal net bs i y (length room)) room (begins (nodes_passed net bs i y) room)

-- The network as bytes.
abbrev pub net_bytes : Net → List ℕ
net_bytes net = bytes_of net.n net.lmax net.arcs

abbrev pub pack_rows : Net → ℕ → List Row
pack_rows net wide = room_rows wide (size (length net.arcs))

abbrev pub pack_refusal : Checked → ℕ → ℕ
pack_refusal net wide = net.refused else refused (pack_rows net.meant wide)

-- how many bytes were written
abbrev pub pack_answer : Checked → List ℕ → ℕ
pack_answer net room = pack_refusal net (length room) else values (size (length net.meant.arcs)) 0

abbrev pub pack_room : Checked → List ℕ → List ℕ
pack_room net room = kept_if (pack_refusal net (length room)) room (begins (net_bytes net.meant) room)
