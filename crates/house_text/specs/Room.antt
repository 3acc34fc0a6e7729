-- How large a room must be for a text.
use Rattle.std.specs.Prelude.{ℕ, ◌+◌, ◌*◌}

-- no text of a house is longer, 4719 bytes: four counts of 20 digits with their words, and 16 times 16 lines of 18 bytes
abbrev pub longest : ℕ
longest = (31 + 4 * 20) + 16 * (16 * 18)

-- no line of a refusal is longer
abbrev pub longest_refused : ℕ
longest_refused = 9 + 20
