-- `word`: one byte more at each turn.
use mathlib.Core.Path.{◌≡◌}
use Prim.Native.Nat.{◌≤◌}
use lib.ListN.{length, take}
use Rattle.house_words.specs.Texts.{Appends}
use Rattle.house_words.proofs.Text.word.Given as goal

abbrev pub invariant-loop-byte : goal.invariant-loop-byte
invariant-loop-byte l =
    (l.byte-index ≤ length l.word) × (l.byte-index-end ≡ length l.word)
    × Appends l.initial.self (take l.byte-index l.word) l.self
