-- A run's state as numbers: 16 parts, one for each node from 1 on, and the numbers of a part by place; and the site that a part means.
use Rattle.std.proofs.Math.Option.{Option, none, some}
use Rattle.std.specs.Prelude.{List, [], ◌∷◌, ℕ, zero, suc, ◌+◌, ◌*◌, ◌-◌, ltb, leb, eqb, get_or, map, if◌then◌else◌}
use Rattle.method.specs.Message.{Msg, label, len, end, last_len, Item, finite, infinite}
use Rattle.method.specs.Rules.{Filled, Phase, unstarted, started, stopped, Node}
use Rattle.method.specs.Work.{Site}
use Rattle.method.specs.Steps.{State}
use Rattle.method.specs.declared.Filled.{Filled as FilledInCode}
use Rattle.run_cells.specs.declared.Phase.{Phase as PhaseInCode}
use Rattle.run_cells.specs.declared.Phase.TheVariants.{Unstarted, Started, Stopped}
use Rattle.run_cells.specs.declared.Part.{Part as PartInCode}
use Rattle.run_cells.specs.declared.State.{State as StateInCode}

-- 01's sizes: nodes, and LMAX, which is how far a length rises at most
abbrev pub nodes_most : ℕ
nodes_most = 16

abbrev pub rise_most : ℕ
rise_most = 15

-- places of a table by head or target (0 to 16), entries, labels, and messages sent (law l)
abbrev pub table_size : ℕ
table_size = nodes_most + 1

abbrev pub entry_most : ℕ
entry_most = nodes_most

abbrev pub label_most : ℕ
label_most = nodes_most

abbrev pub sent_most : ℕ
sent_most = (nodes_most - 1) * rise_most + nodes_most + 2

-- The numbers of a part, by place: one each of phase, messages sent, entries filled, LP, last length sent, head waited for;
abbrev pub phase_at : ℕ
phase_at = 0

abbrev pub sent_count : ℕ
sent_count = phase_at + 1

abbrev pub entry_count : ℕ
entry_count = sent_count + 1

abbrev pub lp_at : ℕ
lp_at = entry_count + 1

abbrev pub last_at : ℕ
last_at = lp_at + 1

abbrev pub waits_at : ℕ
waits_at = last_at + 1

-- by head 0 to 16: delivered, taken, the sum of arc length and current item; by target 0 to 16: which entry it has, counted from 1;
abbrev pub delivered_at : ℕ
delivered_at = waits_at + 1

abbrev pub taken_at : ℕ
taken_at = delivered_at + table_size

abbrev pub sums_at : ℕ
sums_at = taken_at + table_size

abbrev pub marks_at : ℕ
marks_at = sums_at + table_size

-- by entry, in the order of filling: target, distance, first hop; and the messages in the order sent.
abbrev pub targets_at : ℕ
targets_at = marks_at + table_size

abbrev pub distances_at : ℕ
distances_at = targets_at + entry_most

abbrev pub hops_at : ℕ
hops_at = distances_at + entry_most

abbrev pub messages_at : ℕ
messages_at = hops_at + entry_most

-- a part's numbers by place
abbrev pub Part : Type 0
Part = ℕ → ℕ

-- from place b on the numbers of a list, before it those that were
abbrev pub block : ℕ → List ℕ → Part → Part
block b xs f q = if leb b q then get_or xs (q - b) 0 else f q

abbrev pub phase_number : PhaseInCode → ℕ
phase_number Unstarted = 0
phase_number Started = 1
phase_number Stopped = 2

abbrev pub targets_of : List FilledInCode → List ℕ
targets_of es = map (λ e. e.target) es

abbrev pub distances_of : List FilledInCode → List ℕ
distances_of es = map (λ e. e.distance) es

abbrev pub hops_of : List FilledInCode → List ℕ
hops_of es = map (λ e. e.hop) es

-- the numbers of the code's part: those that stand alone, by head or target, by entry, and the messages
abbrev pub alone : PartInCode → Part
alone p = block 0 (phase_number p.phase ∷ p.sent ∷ p.filled ∷ p.lp ∷ p.last ∷ p.waits ∷ []) (λ q. 0)

abbrev pub with_tables : List ℕ → List ℕ → List ℕ → List ℕ → Part → Part
with_tables ds ts ss ms f = block marks_at ms (block sums_at ss (block taken_at ts (block delivered_at ds f)))

abbrev pub with_lists : List FilledInCode → List ℕ → Part → Part
with_lists es ws f =
    block messages_at ws (block hops_at (hops_of es) (block distances_at (distances_of es) (block targets_at (targets_of es) f)))

unfoldable pub numbers : PartInCode → Part
numbers p = with_lists p.entries p.messages (with_tables p.delivered p.taken p.sums p.marks (alone p))

-- the parts of all nodes; there is no node 0, and none beyond 16
abbrev pub parts_from : List PartInCode → ℕ → Part
parts_from [] j = λ o. 0
parts_from (p ∷ ps) zero = numbers p
parts_from (p ∷ ps) (suc j) = parts_from ps j

abbrev pub cells : StateInCode → ℕ → Part
cells s zero = λ o. 0
cells s (suc i) = if ltb i nodes_most then parts_from s.parts i else (λ o. 0)

-- a message after those of s as a code: 0 the end, 1 to 16 a label, from 17 a length, by how much it is more than the last of s
abbrev pub msg_of : List Msg → ℕ → Msg
msg_of s w = if eqb w 0 then end else if leb w label_most then label w else len (last_len s + (w - label_most))

-- the first k messages and the first k entries, newest first
abbrev pub sent_from : Part → ℕ → List Msg
sent_from f zero = []
sent_from f (suc k) = msg_of (sent_from f k) (f (messages_at + k)) ∷ sent_from f k

abbrev pub entry_at : Part → ℕ → Filled
entry_at f k = record { target = f (targets_at + k); distance = f (distances_at + k); hop = f (hops_at + k) }

abbrev pub table_from : Part → ℕ → List Filled
table_from f zero = []
table_from f (suc k) = entry_at f k ∷ table_from f k

abbrev pub phase_named : ℕ → Phase
phase_named p = if eqb p 0 then unstarted else if eqb p 1 then started else stopped

-- a table by head
abbrev pub row : Part → ℕ → ℕ → ℕ
row f base h = if ltb h table_size then f (base + h) else 0

abbrev pub node_of : Part → Node
node_of f =
    record { phase = phase_named (f phase_at); sent = sent_from f (f sent_count); table = table_from f (f entry_count); lp = f lp_at }

abbrev pub site_of : Part → Site
site_of f = record { node = node_of f; delivered = row f delivered_at; taken = row f taken_at }

abbrev pub state_of : (ℕ → Part) → State
state_of m j = site_of (m j)

-- the entry that a mark names
abbrev pub entry_marked : Part → ℕ → Option Filled
entry_marked f zero = none
entry_marked f (suc k) = some (entry_at f k)

-- The sum of an arc's length, 255 where there is no arc, and its current item; 255 where either is missing. A sum is 255 at most, and
-- no node goes on with one beyond 240 (rule 2): so a sum of 255 need not be told from none.
abbrev pub no_sum : ℕ
no_sum = 255

abbrev pub item_sum : ℕ → Item → ℕ
item_sum l (finite v) = l + v
item_sum l infinite = no_sum

abbrev pub sum_of : ℕ → Item → ℕ
sum_of l t = if eqb l 255 then no_sum else item_sum l t
