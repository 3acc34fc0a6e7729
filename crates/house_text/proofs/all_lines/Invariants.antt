-- `all_lines`: the lines of the nodes before the next one stand.
use Prim.Native.Nat.{◌+◌, ◌-◌, ◌≤◌}
use Rattle.house_text.specs.Lines.{rising, node_lines}
use Rattle.house_text.specs.Handed.{handed_entry}
use Rattle.house_words.specs.Texts.{Appends}
use Rattle.house_text.proofs.all_lines.Given as goal

abbrev pub invariant-loop-node : goal.invariant-loop-node
invariant-loop-node l =
    (l.node ≤ l.entries.n + 1)
    × Appends l.initial.text (rising (node_lines (handed_entry l.entries.n l.entries.numbers.now) l.entries.n) (l.node - 1)) l.text
