-- `put_arcs`: the arcs that are left, written from their byte on, leave the room as all of them do.
use mathlib.Core.Path.{◌≡◌}
use Prim.Native.Nat.{◌+◌, ◌*◌}
use lib.Seq.{sets}
use Rattle.network.specs.Layout.{net_of}
use Rattle.network_pack.specs.Pairs.{pair_bytes}
use Rattle.network_pack.proofs.Written.{rest}
use Rattle.network_pack.proofs.put_arcs.Given as goal

abbrev pub invariant-loop-k : goal.invariant-loop-k
invariant-loop-k l =
    sets l.room (3 + 3 * l.k) (pair_bytes (rest l.net.layout l.net.layout.count (2 * l.k)))
    ≡ sets l.initial.room 3 (pair_bytes (net_of l.net.layout).arcs)
