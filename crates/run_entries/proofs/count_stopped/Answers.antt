-- `count_stopped`: the parts of the first nodes are counted, and each is its node's.
use mathlib.Core.Path.{◌≡◌, ◌∙◌}
use native.Mathlib.Omega.{arith}
use borrow.Author.Rules.{rules}
use lib.ListN.{take}
use Rattle.std.proofs.lemmas.List.{length-take}
use Rattle.std.specs.List.{count_by}
use Rattle.run_cells.specs.declared.Part.{Part}
use Rattle.run_entries.proofs.Reading.{stopped_phase, counted}
use Rattle.run_entries.proofs.count_stopped.Goals as goal

pub returns : goal.returns
returns c =
    let s = c.args.state.now in
    let n = c.args.nodes in
    let e : c.count.result ≡ count_by (λ (p : Part). stopped_phase p.phase) (take n s.parts) = search rules in
    e ∙ counted s n (omega (arith, length-take n s.parts))
