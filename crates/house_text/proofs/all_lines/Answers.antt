-- `all_lines`: one node's lines more at each turn.
use mathlib.Core.Path.{◌≡◌}
use mathlib.Core.List.{List}
use Prim.Native.Nat.{ℕ, ◌+◌, ◌-◌}
use native.Mathlib.Omega.{arith}
use Rattle.house_text.specs.declared.Entries.{Entries}
use Rattle.house_text.specs.Lines.{node_lines}
use Rattle.house_text.specs.Handed.{handed_entry}
use Rattle.house_text.proofs.Rising.{next_fits, one_more_lem}
use Rattle.house_text.proofs.all_lines.Goals as goal

-- the lines of a node
abbrev lines : Entries → ℕ → List ℕ
lines e = node_lines (handed_entry e.n e.numbers.now) e.n

pub node_lines-requires-clause-has_room : goal.node_lines-requires-clause-has_room
node_lines-requires-clause-has_room c =
    let e = c.args.entries.now in
    next_fits (lines e) c.loop-node.node (omega arith) c.loop-node.invariant.1 e.n (omega arith) c.requires

pub loop-node-preserved : goal.loop-node-preserved
loop-node-preserved c =
    let e = c.args.entries.now in
    let t = c.loop-node.node in
    (omega arith, one_more_lem (lines e) t (omega arith) c.loop-node.invariant.1 (t + 1 - 1) (omega arith) c.node_lines.ensures)

pub returns : goal.returns
returns c =
    let e : c.loop-node.node - 1 ≡ c.args.entries.now.n = omega arith in
    rw e at c.loop-node.invariant.1

pub returns-2 : goal.returns-2
returns-2 c =
    let e = c.args.entries.now in
    one_more_lem (lines e) c.loop-node.node (omega arith) c.loop-node.invariant.1 e.n (omega arith) c.node_lines.ensures
