-- `read_input`: one read more at each turn.
use Prim.Native.Nat.{◌≤◌}
use native.Mathlib.Omega.{arith}
use lib.ListN.{length}
use Rattle.house_table.proofs.Reading.{read_more}
use Rattle.house_table.proofs.read_input.Goals as goal

pub loop-done-preserved : goal.loop-done-preserved
loop-done-preserved g c =
    let l = c.loop-done in
    let got : c.in_ok-got.got ≤ length c.read.new.buf = c.in_ok-got.ensures.bound.0 in
    let within = l.invariant.0 in
    (omega (arith, got), read_more l.room c.read.new.buf l.done c.in_ok-got.got within got _ _ _ l.invariant.1 c.in_ok-got.ensures.bytes.0)
