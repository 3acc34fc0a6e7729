-- `send_length`: sent, or the last already.
use mathlib.Core.Path.{ap, ◌∙◌}
use native.Mathlib.Omega.{arith}
use Rattle.run_cells.specs.Part.{Part, last_at, numbers}
use Rattle.run_cells.specs.Stores.{upd}
use Rattle.run_cells.proofs.Fields.{store_last}
use Rattle.run_cells.proofs.Loads.{last_is}
use Rattle.run_cells.proofs.Stored.{send_law, unsent_law}
use Rattle.run_cells.proofs.Part.send_length.Goals as goal

pub overflow_sub-length : goal.overflow_sub-length
overflow_sub-length c = omega (arith, last_is c.args.self.now, c.requires.0.least)

pub overflow_add-length : goal.overflow_add-length
overflow_add-length c = omega (arith, last_is c.args.self.now, c.requires.0.most)

pub returns-then-self-length : goal.returns-then-self-length
returns-then-self-length c =
    let p = c.args.self.now in
    store_last c.push.new.self c.args.length ∙ ap (λ (f : Part). upd f last_at c.args.length) c.push.ensures
    ∙ send_law (numbers p) c.args.length p.last (last_is p) (omega arith)

pub returns-else-self-length : goal.returns-else-self-length
returns-else-self-length c =
    let p = c.args.self.now in
    unsent_law (numbers p) c.args.length p.last (last_is p) (omega arith)
