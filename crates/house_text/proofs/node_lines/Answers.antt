-- `node_lines`: one target's line more at each turn.
use mathlib.Core.List.{List}
use Prim.Native.Nat.{ℕ, ◌+◌, ◌-◌}
use native.Mathlib.Omega.{arith}
use Rattle.house_text.specs.declared.Entries.{Entries}
use Rattle.house_text.specs.Lines.{entry_line}
use Rattle.house_text.specs.Handed.{handed_entry}
use Rattle.house_text.proofs.Rising.{next_fits, one_more_lem}
use Rattle.house_text.proofs.node_lines.Goals as goal

-- the line of a target
abbrev line : ℕ → Entries → ℕ → List ℕ
line node e target = entry_line node target (handed_entry e.n e.numbers.now node target)

pub entry_line-requires : goal.entry_line-requires
entry_line-requires c =
    let e = c.args.entries.now in
    let t = c.loop-target.target in
    let fits = next_fits (line c.args.node e) t (omega arith) c.loop-target.invariant e.n (omega arith) c.requires.has_room in
    rw c.entry.ensures fits

pub loop-target-preserved : goal.loop-target-preserved
loop-target-preserved c =
    let e = c.args.entries.now in
    let t = c.loop-target.target in
    one_more_lem (line c.args.node e) t (omega arith) c.loop-target.invariant (t + 1 - 1) (omega arith)
    (rw c.entry.ensures at c.entry_line.ensures)

pub returns-2 : goal.returns-2
returns-2 c =
    let e = c.args.entries.now in
    one_more_lem (line c.args.node e) c.loop-target.target (omega arith) c.loop-target.invariant e.n (omega arith)
    (rw c.entry.ensures at c.entry_line.ensures)
