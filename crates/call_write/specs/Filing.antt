-- What the inner function promises: a node's file out of the run's state.
use Rattle.std.specs.Prelude.{ℕ, zero, suc, ◌-◌, List, [], ◌∷◌}
use Rattle.method.specs.Rules.{Filled}
use Rattle.method.specs.Entries.{is_stopped}
use Rattle.network.specs.Layout.{net_of}
use Rattle.network.specs.declared.Layout.{Layout}
use Rattle.run_cells.specs.Part.{Part, entry_count, entry_at, site_of}
use Rattle.table.specs.File.{one, file_of, header_for}

-- the k entries that were filled right after the first, newest first
abbrev pub after_first : Part → ℕ → List Filled
after_first f zero = []
after_first f (suc k) = entry_at f (suc k) ∷ after_first f k

-- the file that node i's part holds, where its first entry is its own
abbrev pub held_file : Layout → ℕ → Part → List ℕ
held_file g i f = file_of one (header_for (net_of g) i) (after_first f (f entry_count - 1)) (is_stopped (site_of f))
