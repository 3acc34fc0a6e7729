-- `node_lines`: the lines of the targets before the next one stand.
use Prim.Native.Nat.{◌-◌}
use Rattle.house_text.specs.Lines.{node_lines}
use Rattle.house_text.specs.Handed.{handed_entry}
use Rattle.house_words.specs.Texts.{Appends}
use Rattle.house_text.proofs.node_lines.Given as goal

abbrev pub invariant-loop-target : goal.invariant-loop-target
invariant-loop-target l =
    Appends l.initial.text (node_lines (handed_entry l.entries.n l.entries.numbers.now) (l.target - 1) l.node) l.text
