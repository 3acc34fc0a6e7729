-- `wait`: the length, then the head waited for.
use mathlib.Core.Path.{ap, ◌∙◌}
use Rattle.run_cells.specs.Part.{Part, waits_at}
use Rattle.run_cells.specs.Stores.{upd, waited}
use Rattle.run_cells.proofs.Fields.{store_waits}
use Rattle.run_cells.proofs.Part.wait.Goals as goal

pub returns : goal.returns
unfolding waited
returns c =
    let sent = c.send_length in
    store_waits sent.new.self c.args.head ∙ ap (λ (f : Part). upd f waits_at c.args.head) sent.ensures
