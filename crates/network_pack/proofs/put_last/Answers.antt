-- `put_last`: two stores, one after the other.
use Rattle.network.specs.Given.{given}
use Rattle.network_pack.proofs.Written.{last_stored}
use Rattle.network_pack.proofs.put_last.Goals as goal

pub returns : goal.returns
returns c =
    let a = c.args in
    last_stored a.room.now a.p _ _ (given a.a) c.halves.ensures c.halves-2.ensures
