-- `put_pair`: three stores, one after the other.
use lib.ListN.{length-set}
use Rattle.network.specs.Given.{given}
use Rattle.network_pack.proofs.Written.{pair_stored}
use native.Mathlib.Omega.{arith}
use Rattle.network_pack.proofs.put_pair.Goals as goal

pub bounds-room-p-2 : goal.bounds-room-p-2
bounds-room-p-2 c = simp length-set (omega arith)

pub returns : goal.returns
returns c =
    let a = c.args in
    pair_stored a.room.now a.p _ _ _ (given a.a) (given a.b) c.halves.ensures
    c.halves-2.ensures c.halves-3.ensures
