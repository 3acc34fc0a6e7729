-- `clear`: the sums head by head.
use Prim.Native.Nat.{ℕ, ◌<◌}
use native.Mathlib.Omega.{arith}
use lib.ListN.{length-set, length-replicate}
use Rattle.run_cells.specs.Part.{table_size, no_sum}
use Rattle.run_cells.proofs.Cleared.{laid_none, laid_next, clear_law}
use Rattle.run_cells.proofs.Part.clear.Goals as goal

pub loop-head-init : goal.loop-head-init
loop-head-init c = record { all = length-replicate table_size no_sum; laid = laid_none c.args.net.now.layout c.args.node }

pub loop-head-preserved : goal.loop-head-preserved
loop-head-preserved c =
    let l = c.loop-head in
    record {
      all = simp length-set l.invariant.all;
      laid = laid_next c.args.net.now.layout c.args.node l.head l.sums (omega arith) (omega arith) l.invariant.laid;
    }

pub returns : goal.returns
returns c =
    let l = c.loop-head in
    clear_law c.args.self.now c.args.net.now.layout c.args.node l.sums (λ (k : ℕ) (lt : k < 17). l.invariant.laid k (omega arith))
