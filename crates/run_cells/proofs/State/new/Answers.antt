-- `new`: nothing anywhere.
use mathlib.Core.Path.{◌≡◌, refl}
use Prim.Native.Nat.{ℕ, zero, suc}
use mathlib.Core.Bool.{Bool, true, false, cond}
use lib.Dec.{ltb}
use Rattle.run_cells.specs.Part.{parts_from, cells, nodes_most}
use Rattle.run_cells.proofs.Cleared.{parts_nothing, unborn, unborn_nothing}
use lib.ListN.{replicate}
use Rattle.run_cells.proofs.State.new.Goals as goal

none : (i o : ℕ) → cells (record { parts = replicate nodes_most unborn }) i o ≡ 0
none zero o = refl
none (suc i) o = go (ltb i nodes_most)
  where
    go : (b : Bool) → cond b (parts_from (replicate nodes_most unborn) i) (λ o. 0) o ≡ 0
    go true = parts_nothing nodes_most unborn unborn_nothing i o
    go false = refl

pub returns : goal.returns
returns c = none
