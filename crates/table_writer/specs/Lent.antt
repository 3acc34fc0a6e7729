-- What the writer is lent: records in the order of filling.
use Rattle.std.specs.Prelude.{ℕ, Bool, List, map, reverse}
use Rattle.method.specs.Rules
use Rattle.method.specs.Meant.{filled}
use Rattle.method.specs.declared.Filled.{Filled}
use Rattle.table.specs.File.{one, file_of}
use Rattle.table.specs.declared.Header.{Header}

-- records as a node holds them, newest first
abbrev pub newest_first : List Filled → List Rules.Filled
newest_first records = reverse (map filled records)

-- the file of what is lent
abbrev pub lent_file : Header → List Filled → Bool → List ℕ
lent_file h records stopped = file_of one h (newest_first records) stopped
