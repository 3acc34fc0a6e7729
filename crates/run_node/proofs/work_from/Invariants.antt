-- `work_from`: both loops keep that the work from here on is the work from the start; the outer one also, that the arc is rule 1's.
use Rattle.run_node.proofs.Loops.{left, pick, Going}
use Rattle.run_node.specs.Rules.{IsChoice}
use Rattle.method.specs.Rules.{to₁, to₃}
use Rattle.run_cells.specs.Part.{cells}
use Rattle.run_node.proofs.work_from.Given as goal

abbrev pub invariant-take : goal.invariant-take
invariant-take l = Going l.net.layout l.node (to₃ (pick l.chosen.sum l.chosen.head)) (cells l.initial.state) (cells l.state)

abbrev pub decreases-take : goal.decreases-take
decreases-take l = left l.net.layout (cells l.state) l.node

abbrev pub invariant-choose : goal.invariant-choose
invariant-choose l =
    Going l.net.layout l.node to₁ (cells l.initial.state) (cells l.state)
    × IsChoice (cells l.state l.node) l.chosen.sum l.chosen.head

abbrev pub decreases-choose : goal.decreases-choose
decreases-choose l = left l.net.layout (cells l.state) l.node
