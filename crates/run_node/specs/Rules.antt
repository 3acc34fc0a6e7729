-- What the code of rules 1, 3 and 4 makes of a node's part, and what numbers it asks for.
use Rattle.std.specs.Prelude.{◌≡◌, ℕ, zero, suc, ◌+◌, ◌-◌, ◌≤◌, ◌<◌, ltb, leb, eqb, if◌then◌else◌}
use Rattle.method.specs.Rules.{Choice}
use Rattle.run_cells.specs.Part.{Part, table_size, entry_most, sent_most, label_most, sent_count, entry_count, delivered_at, taken_at}
use Rattle.run_cells.specs.Part.{sums_at}
use Rattle.run_cells.specs.Part.{marks_at}
use Rattle.run_cells.specs.Part.{messages_at, no_sum}
use Rattle.run_cells.specs.Stores.{upd, Rises, raised, waited, filled}
use Rattle.run_node.specs.declared.Heard.{Heard}
use Rattle.run_node.specs.declared.Heard.TheVariants.{Nothing, Label, Length}

-- Rule 1: the least sum of the heads 1 to k, of equals the lowest head; head 0 where there is none
unfoldable pub least : Part → ℕ → Choice
least f zero = record { sum = no_sum; head = 0 }
least f (suc k) = if ltb (f (sums_at + suc k)) (least f k).sum then record { sum = f (sums_at + suc k); head = suc k } else least f k

-- x and h are the sum and the head of rule 1's choice. A head that is no node has no sum, so that all 16 are looked at in any house.
abbrev pub IsChoice : Part → ℕ → ℕ → Type 0
IsChoice f x h = (x ≡ (least f 16).sum) × (h ≡ (least f 16).head)

-- Rule 4: a node hears the message of code w on its arc to h, of sum x
unfoldable pub hears : Part → ℕ → ℕ → ℕ → Part
unfolding filled
hears f h x w =
    if eqb w 0 then upd f (sums_at + h) no_sum
    else if leb w label_most then (if eqb (f (marks_at + w)) 0 then filled f h x w else f)
    else upd f (sums_at + h) (x + (w - label_most))

abbrev pub heard_of : ℕ → Heard
heard_of w = if eqb w 0 then Length else if leb w label_most then Label else Length

-- Rules 3 and 4: the next message of the arc to h, or waiting for it
abbrev pub next_of : (ℕ → Part) → ℕ → ℕ → ℕ
next_of m i h = m h (messages_at + m i (taken_at + h))

unfoldable pub takes : (ℕ → Part) → ℕ → ℕ → ℕ → Part
unfolding hears raised waited
takes m i h x =
    if leb (m i (delivered_at + h)) (m i (taken_at + h)) then waited (m i) x h
    else hears (raised (m i) (taken_at + h)) h x (next_of m i h)

abbrev pub took_of : (ℕ → Part) → ℕ → ℕ → Heard
took_of m i h = if leb (m i (delivered_at + h)) (m i (taken_at + h)) then Nothing else heard_of (next_of m i h)

-- there is room for a label that has no entry yet
abbrev pub Room : Part → ℕ → Type 0
Room f w = 1 ≤ w → w ≤ label_most → f (marks_at + w) ≡ 0 → (f sent_count + 1 < sent_most) × (f entry_count < entry_most)

-- what taking asks of the numbers
pub record Able (m : ℕ → Part) (i h x : ℕ) : Type 0 where
  pub own : (1 ≤ i) × (i < table_size)
  pub head : (1 ≤ h) × (h < table_size)
  pub rises : Rises (m i) x
  pub sent : m i sent_count < sent_most
  pub within : m i (taken_at + h) < m i (delivered_at + h) → m i (taken_at + h) < sent_most
  pub sum : m i (taken_at + h) < m i (delivered_at + h) → x + (next_of m i h - label_most) ≤ no_sum
  pub room : m i (taken_at + h) < m i (delivered_at + h) → Room (m i) (next_of m i h)
