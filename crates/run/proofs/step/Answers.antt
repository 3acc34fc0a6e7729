-- `step`: the byte's range, then whether it names a node or an arc.
use mathlib.Core.Path.{sym, ◌∙◌}
use borrow.Author.Tests.{ltb-true, ltb-false}
use Prim.Native.Nat.{◌+◌, ◌-◌}
use native.Mathlib.Omega.{arith}
use Rattle.method.specs.Steps.{byte_step, node, arc, idle}
use Rattle.network.specs.Layout.{arc_at}
use Rattle.network.proofs.Laws.{laid}
use Rattle.run.specs.Ran.{kind_of}
use Rattle.run_cells.specs.Part.{delivered_at, sent_count, cells}
use Rattle.run.proofs.Acting.{nothing_there}
use Rattle.run.proofs.Stepping.{ends_are_nodes, names_node, names_no_node, names_arc, names_no_arc, acted_did, nothing_did}
use Rattle.run.proofs.step.Goals as goal

pub returns-then-byte-net : goal.returns-then-byte-net
returns-then-byte-net c =
    let a = c.args in
    let g = a.net.now.layout in
    acted_did g (laid a.net.now) (cells a.state.now) c.requires (byte_step a.byte) (node (a.byte + 1))
    (names_node g a.byte (omega arith) (omega arith)) (a.byte + 1) (cells c.start.new.state) (kind_of c.start.result) c.start.ensures

pub deliver-requires : goal.deliver-requires
deliver-requires c =
    let a = c.args in
    let q = ends_are_nodes a.net.now.layout (laid a.net.now) (a.byte - 16) (omega arith) in
    rw c.from.ensures (c.requires, q.0, q.1, ltb-true _ _ (sym (rw c.from.ensures at c.has_more.ensures) ∙ c.if-has_more.true))

pub returns-then-has_more : goal.returns-then-has_more
returns-then-has_more c =
    let a = c.args in
    let g = a.net.now.layout in
    let on = arc_at g (a.byte - 16) in
    acted_did g (laid a.net.now) (cells a.state.now) c.requires (byte_step a.byte) (arc on.tail on.head)
    (names_arc g a.byte (omega arith) (omega arith)) on.tail (cells c.deliver.new.state) (kind_of c.deliver.result)
    (rw c.from.ensures at c.deliver.ensures)

pub returns-then-arc-net : goal.returns-then-arc-net
returns-then-arc-net c =
    let a = c.args in
    let g = a.net.now.layout in
    let la = laid a.net.now in
    let m = cells a.state.now in
    let on = arc_at g (a.byte - 16) in
    let q = ends_are_nodes g la (a.byte - 16) (omega arith) in
    acted_did g la m c.requires (byte_step a.byte) (arc on.tail on.head) (names_arc g a.byte (omega arith) (omega arith)) on.tail m idle
    (nothing_there g la m c.requires on.tail q.0 on.head q.1
    (ltb-false (m on.tail (delivered_at + on.head)) (m on.head sent_count)
    (sym (rw c.from.ensures at c.has_more.ensures) ∙ c.if-has_more.false)))

pub returns-else-byte-net : goal.returns-else-byte-net
returns-else-byte-net c =
    let a = c.args in
    let g = a.net.now.layout in
    nothing_did g (laid a.net.now) (cells a.state.now) c.requires (byte_step a.byte) (names_no_node g a.byte (omega arith) (omega arith))

pub returns-else-arc-net : goal.returns-else-arc-net
returns-else-arc-net c =
    let a = c.args in
    let g = a.net.now.layout in
    nothing_did g (laid a.net.now) (cells a.state.now) c.requires (byte_step a.byte) (names_no_arc g a.byte (omega arith) (omega arith))
