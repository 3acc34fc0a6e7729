-- What the code's stores make of a part.
use Rattle.std.specs.Prelude.{◌≡◌, ◌≢◌, ℕ, zero, suc, ◌+◌, ◌-◌, ◌≤◌, ltb, leb, eqb, Option, Some, None, if◌then◌else◌}
use Rattle.method.specs.Message.{finite}
use Rattle.network.specs.Layout.{len_at}
use Rattle.network.specs.declared.Layout.{Layout}
use Rattle.run_cells.specs.Part.{Part, phase_at, sent_count, entry_count, lp_at, last_at, waits_at, sums_at, marks_at, targets_at}
use Rattle.run_cells.specs.Part.{delivered_at, taken_at, distances_at}
use Rattle.run_cells.specs.Part.{hops_at, messages_at, table_size, label_most, rise_most, no_sum, sum_of}

-- a number stored in a part
abbrev pub upd : Part → ℕ → ℕ → Part
upd f o v q = if eqb q o then v else f q

-- part i has become f, and no other part has changed
pub record Stored (m : ℕ → Part) (i : ℕ) (f : Part) (n : ℕ → Part) : Type 0 where
  pub here : n i ≡ f
  pub there : (j : ℕ) → j ≢ i → n j ≡ m j

-- one more at a place
unfoldable pub raised : Part → ℕ → Part
raised f o = upd f o (f o + 1)

-- message w is sent
unfoldable pub pushed : Part → ℕ → Part
pushed f w = upd (upd f (messages_at + f sent_count) w) sent_count (f sent_count + 1)

-- x can be sent as a length: it is as far above the last as a code can say
pub record Rises (f : Part) (x : ℕ) : Type 0 where
  pub least : f last_at ≤ x
  pub most : x ≤ f last_at + rise_most
  pub short : x ≤ no_sum

-- "A length equal to the last length sent by that node is not sent."
unfoldable pub length_sent : Part → ℕ → Part
unfolding pushed
length_sent f x = if eqb (f last_at) x then f else upd (pushed f (label_most + (x - f last_at))) last_at x

-- "send length x and wait for that arc": the one to h
unfoldable pub waited : Part → ℕ → ℕ → Part
unfolding length_sent
waited f x h = upd (length_sent f x) waits_at h

-- entry y is filled with distance x and first hop h, and LP set to x
unfoldable pub noted : Part → ℕ → ℕ → ℕ → Part
noted f y x h =
    upd (upd (upd (upd (upd (upd f (targets_at + f entry_count) y) (distances_at + f entry_count) x) (hops_at + f entry_count) h)
    (marks_at + y) (f entry_count + 1)) entry_count (f entry_count + 1)) lp_at x

-- "send length x, send label y, fill entry y with distance x and the chosen head as first hop, set LP = x"
unfoldable pub filled : Part → ℕ → ℕ → ℕ → Part
unfolding length_sent noted
filled f h x y = noted (pushed (length_sent f x) y) y x h

-- "send the end and stop"
unfoldable pub stopped_part : Part → Part
unfolding pushed
stopped_part f = upd (pushed f 0) phase_at 2

-- node i's start, but for its work
unfoldable pub begun_part : Part → ℕ → Part
unfolding pushed noted
begun_part f i = upd (noted (pushed f i) i 0 0) phase_at 1

-- the place of the oldest message that the arc to h has delivered and the node has not taken
abbrev pub waiting : Part → ℕ → Option ℕ
waiting f h = if leb (f (delivered_at + h)) (f (taken_at + h)) then None else Some (f (taken_at + h))

-- the message at a place, and node i's next message on the arc to h
abbrev pub placed : Part → Option ℕ → Option ℕ
placed f None = None
placed f (Some t) = Some (f (messages_at + t))

abbrev pub arrived : (ℕ → Part) → ℕ → ℕ → Option ℕ
arrived m i h = placed (m h) (waiting (m i) h)

-- it is taken, where there is one
abbrev pub took : Part → ℕ → Part
took f h = if leb (f (delivered_at + h)) (f (taken_at + h)) then f else raised f (taken_at + h)

-- the first k numbers cleared; the first k sums as they are before the first step
abbrev pub zeroed : Part → ℕ → Part
zeroed f k q = if ltb q k then 0 else f q

abbrev pub with_sums : Layout → ℕ → Part → ℕ → Part
with_sums g i f k q = if ltb q sums_at then f q else if ltb q (sums_at + k) then sum_of (len_at g i (q - sums_at)) (finite 0) else f q

-- the parts of the nodes 1 to k as they are before the first step
abbrev pub cleared : Layout → (ℕ → Part) → ℕ → ℕ → Part
cleared g m k zero = m zero
cleared g m k (suc j) = if ltb j k then with_sums g (suc j) (zeroed (m (suc j)) targets_at) table_size else m (suc j)
