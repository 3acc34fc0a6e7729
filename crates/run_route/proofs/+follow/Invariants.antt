-- `follow`: at the target, or one hop and the rest of the way.
use Rattle.run_cells.specs.Part.{cells, state_of}
use Rattle.method.specs.Route.{distance_to}
use Rattle.run_route.proofs.+follow.Given as goal

abbrev pub decreases-follow : goal.decreases-follow
decreases-follow l = distance_to (state_of (cells l.state.now)) l.target l.node
