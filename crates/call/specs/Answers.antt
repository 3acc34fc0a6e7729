-- How a call answers: one number, with the refusal in the low byte and the values above it.
use Rattle.std.specs.Prelude.{ℕ, ◌+◌, ◌*◌}
use Rattle.method.specs.Entries.{Entry}
use Rattle.method.specs.Marks.{distance_of, hop_of}

-- a from bit 8 on, b from bit 16 on: where there is a b, a is below 256
abbrev pub values : ℕ → ℕ → ℕ
values a b = 256 * a + 65536 * b

-- an entry: its first hop, and its distance or the mark in its place
abbrev pub entry_values : Entry → ℕ
entry_values e = values (hop_of e) (distance_of e)
