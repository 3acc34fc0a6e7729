-- `clear`: part by part.
use mathlib.Core.Path.{◌≡◌, ◌∙◌, sym, ap}
use Prim.Native.Nat.{ℕ, ◌+◌}
use native.Mathlib.Omega.{arith}
use Rattle.run_cells.specs.Part.{Part, table_size, targets_at, nodes_most, cells}
use Rattle.run_cells.specs.Stores.{cleared, with_sums, zeroed}
use Rattle.run_cells.proofs.Stored.{blank, next_part, store_next, named}
use Rattle.run_cells.proofs.Cleared.{clear_next}
use Rattle.run_cells.proofs.State.clear.Goals as goal

pub loop-i-preserved : goal.loop-i-preserved
loop-i-preserved c =
    let g = c.args.net.now.layout in
    let s = c.loop-i.self in
    let i = c.loop-i.i in
    clear_next g i (cells c.args.self.now) c.loop-i.invariant
    (named
    (c.clear.ensures ∙ ap (λ (f : Part). with_sums g (i + 1) (zeroed f targets_at) table_size) (sym (next_part s i blank (omega arith))))
    (store_next s i c.clear.new.self (omega arith)))

pub returns : goal.returns
returns c =
    let l = c.loop-i in
    let e : l.i ≡ nodes_most = omega arith in
    l.invariant ∙ ap (λ (k : ℕ). cleared c.args.net.now.layout (cells c.args.self.now) k) e
