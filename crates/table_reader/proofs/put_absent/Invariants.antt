-- `put_absent`: one entry more at each turn.
use mathlib.Core.Path.{◌≡◌}
use Prim.Native.Nat.{◌+◌, ◌-◌, ◌≤◌}
use lib.ListN.{length}
use Rattle.method.specs.Meant.{meant}
use Rattle.table_reader.specs.Listing.{with_absent}
use Rattle.table_reader.proofs.put_absent.Given as goal

abbrev pub invariant-loop-y : goal.invariant-loop-y
invariant-loop-y l =
    (l.y ≤ l.n + 1) × (length l.room ≡ length l.initial.room)
    × (l.room ≡ with_absent (meant l.absent) (l.y - 1) l.initial.room)
