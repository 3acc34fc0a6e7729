-- `fill`: length, label and entry.
use mathlib.Core.Path.{ap, ◌∙◌}
use native.Mathlib.Omega.{arith}
use Rattle.run_cells.specs.Part.{Part, sent_count, entry_count, numbers}
use Rattle.run_cells.specs.Stores.{filled, noted, pushed}
use Rattle.run_cells.proofs.Loads.{sent_is, filled_is}
use Rattle.run_cells.proofs.Stored.{sent_count_lem, sent_else, pushed_else}
use Rattle.run_cells.proofs.Part.fill.Goals as goal

pub push-requires : goal.push-requires
push-requires c =
    let p = c.args.self.now in
    let s = c.send_length.new.self in
    omega (
      arith,
      sent_is p,
      sent_is s,
      ap (λ (f : Part). f sent_count) c.send_length.ensures,
      sent_count_lem (numbers p) c.args.entry.distance,
    )

pub note-requires : goal.note-requires
note-requires c =
    let p = c.args.self.now in
    let s = c.send_length.new.self in (
      omega arith,
      omega (
        arith,
        filled_is p,
        filled_is c.push.new.self,
        ap (λ (f : Part). f entry_count) c.push.ensures,
        pushed_else (numbers s) c.args.entry.target entry_count (omega arith) (omega arith),
        ap (λ (f : Part). f entry_count) c.send_length.ensures,
        sent_else (numbers p) c.args.entry.distance entry_count (omega arith) (omega arith) (omega arith),
      ),
    )

pub returns : goal.returns
unfolding filled
returns c =
    let e = c.args.entry in
    c.note.ensures
    ∙ ap (λ (f : Part). noted f e.target e.distance e.hop)
    (c.push.ensures ∙ ap (λ (f : Part). pushed f e.target) c.send_length.ensures)
