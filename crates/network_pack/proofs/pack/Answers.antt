-- `pack`: the room is left as it was where the network is refused or the room is short.
use native.Mathlib.Omega.{arith}
use Rattle.network_pack.proofs.Written.{packs_nothing, packs_short, packs_all}
use Rattle.network_pack.proofs.pack.Goals as goal

pub returns-in-Err : goal.returns-in-Err
returns-in-Err c net is = packs_nothing net c.in-Err.reason c.args.room.now (rw c.in-Err.is at is)

pub returns-then-room-from : goal.returns-then-room-from
returns-then-room-from c net is =
    packs_short net c.in-Ok.net (rw c.in-Ok.is at is) c.args.room.now (omega (arith, c.bytes_of-long.ensures))

pub returns : goal.returns
returns c net is =
    packs_all net c.in-Ok.net (rw c.in-Ok.is at is) c.args.room.now _ c.bytes_of-long.result
    (omega (arith, c.bytes_of-long.ensures)) c.bytes_of-long.ensures c.put_bytes.ensures
