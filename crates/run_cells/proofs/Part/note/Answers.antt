-- `note`: the entry, its mark, the number of entries and LP.
use mathlib.Core.Path.{ap, ◌∙◌}
use Prim.Native.Nat.{ℕ, ◌+◌}
use native.Mathlib.Omega.{arith}
use lib.ListN.{set}
use Rattle.run_cells.specs.Part.{Part, entry_count, lp_at, marks_at, targets_at, distances_at, hops_at, numbers}
use Rattle.run_cells.specs.Stores.{upd, noted}
use Rattle.run_cells.proofs.Fields.{store_filled, store_lp, store_mark, store_entry}
use Rattle.run_cells.proofs.Part.note.Goals as goal

pub returns : goal.returns
unfolding noted numbers
returns c =
    let p = c.args.self.now in
    let e = c.args.entry in
    let k = c.from.result in
    let y = c.from-2.result in
    let n = p.filled + 1 in
    store_lp _ e.distance
    ∙ ap (λ (f : Part). upd f lp_at e.distance)
    (store_filled _ n
    ∙ ap (λ (f : Part). upd f entry_count n)
    (store_mark (record p { entries = set p.entries k e }) y n (omega arith) (omega arith)
    ∙ ap (λ (f : Part). upd f (marks_at + y) n) (store_entry p k e (omega arith) (omega arith))
    ∙ ap (λ (z : ℕ). upd (upd (upd (upd (numbers p) (targets_at + k) e.target) (distances_at + k) e.distance) (hops_at + k) e.hop)
    (marks_at + z) n) c.from-2.ensures
    ∙ ap (λ (z : ℕ). upd (upd (upd (upd (numbers p) (targets_at + z) e.target) (distances_at + z) e.distance) (hops_at + z) e.hop)
    (marks_at + e.target) n) c.from.ensures))
