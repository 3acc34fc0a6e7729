-- What a part holds beside its site, so that the code need not work it out again: the last length sent, the sum of each arc, and
-- the entry of each target.
use Rattle.std.specs.Prelude.{◌≡◌, List, ℕ, ◌+◌, ◌≤◌, ◌<◌}
use Rattle.method.specs.Message.{Msg, last_len, item}
use Rattle.method.specs.Work.{heard}
use Rattle.method.specs.Entries.{find}
use Rattle.network.specs.Layout.{len_at}
use Rattle.network.specs.declared.Layout.{Layout}
use Rattle.run_cells.specs.Part.{Part, entry_count, last_at, sums_at, marks_at, entry_marked, node_of, site_of, sum_of}

abbrev pub Last : Part → Type 0
Last f = f last_at ≡ last_len (node_of f).sent

abbrev pub Marks : Part → Type 0
Marks f = (y : ℕ) → y < 17 → (f (marks_at + y) ≤ f entry_count) × (find y (node_of f).table ≡ entry_marked f (f (marks_at + y)))

-- the sums of node i's arcs, where `ss j` is the sent list of node j
abbrev pub Sums : Layout → ℕ → (ℕ → List Msg) → Part → Type 0
Sums g i ss f = (h : ℕ) → h < 17 → f (sums_at + h) ≡ sum_of (len_at g i h) (item (heard ss (site_of f) h))

pub record Caches (g : Layout) (i : ℕ) (ss : ℕ → List Msg) (f : Part) : Type 0 where
  pub last : Last f
  pub marks : Marks f
  pub sums : Sums g i ss f

-- what reading a node's entries asks of its part
pub record Readable (f : Part) : Type 0 where
  pub marks : Marks f
  pub few : f entry_count ≤ 16
