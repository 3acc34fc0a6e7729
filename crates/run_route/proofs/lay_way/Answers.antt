-- `lay_way`: by the entry.
use Rattle.run_cells.specs.Part.{cells}
use Rattle.run_route.proofs.Laying.{says_filled, way_laid}
use Rattle.run_route.proofs.lay_way.Goals as goal

pub returns-in-Known : goal.returns-in-Known
returns-in-Known c =
    let a = c.args in
    let m = cells a.state.now in
    let w = says_filled m a.node a.target c.requires.0 c.entry.result c.entry.ensures _ _ c.in-Known.is in
    way_laid m a.node a.target w a.room.now c.requires.1 c.follow.new.room c.follow.result c.follow.ensures.0 c.follow.ensures.1
