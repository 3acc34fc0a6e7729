-- How the entries of a house are handed over: two numbers for each entry, at the place that `method` gives it.
use Rattle.std.specs.Prelude.{List, ℕ, ◌+◌, eqb, get_or, if◌then◌else◌}
use Rattle.method.specs.Entries.{Entry, unknown, unreachable, known}
use Rattle.method.specs.Marks.{unknown_mark, unreachable_mark, place}

-- the entry that a distance, or a mark in its place, and a first hop are
abbrev pub entry_by : ℕ → ℕ → Entry
entry_by d h = if eqb d unknown_mark then unknown else (if eqb d unreachable_mark then unreachable else known d h)

-- node i's entry for k among those of n nodes
abbrev pub handed_entry : ℕ → List ℕ → ℕ → ℕ → Entry
handed_entry n entries i k = entry_by (get_or entries (place n i k) 0) (get_or entries (place n i k + 1) 0)
