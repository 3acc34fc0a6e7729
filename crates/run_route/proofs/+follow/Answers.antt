-- `follow`: at the target, or one hop and the rest of the way.
use Prim.Native.Nat.{ℕ, ◌+◌, ◌≤◌}
use lib.ListN.{length, set}
use Rattle.method.specs.Route.{route}
use mathlib.Core.Path.{sym, subst, ap, ◌∙◌}
use native.Mathlib.Omega.{arith}
use Rattle.method.specs.Marks.{hop_of}
use Rattle.run_cells.specs.Part.{cells, state_of}
use Rattle.run_route.proofs.Laying.{arrives, onward, nears, h_low, inside, room_left, written}
use Rattle.run_route.proofs.+follow.Goals as goal

pub returns-then-node-target : goal.returns-then-node-target
returns-then-node-target t c =
    let a = c.args in
    arrives (cells a.state.now) a.node a.target c.requires.0 c.if-node-target.true a.at a.room.now

pub overflow_cast-room : goal.overflow_cast-room
overflow_cast-room t c =
    let a = c.args in
    let eh = c.hop-hop.ensures ∙ ap hop_of c.entry.ensures in
    omega (arith, h_low (cells a.state.now) a.node a.target c.requires.0 c.if-node-target.false c.hop-hop.result eh)

pub bounds-room-at : goal.bounds-room-at
bounds-room-at t c =
    let a = c.args in
    let eh = c.hop-hop.ensures ∙ ap hop_of c.entry.ensures in
    inside (cells a.state.now) a.node a.target c.requires.0 c.if-node-target.false c.hop-hop.result eh a.at a.room.now c.requires.1

pub follow-requires : goal.follow-requires
follow-requires t c =
    let a = c.args in
    let m = cells a.state.now in
    let h = c.hop-hop.result in
    let ne = c.if-node-target.false in
    let eh = c.hop-hop.ensures ∙ ap hop_of c.entry.ensures in
    let left : a.at + 1 + length (route (state_of m) a.target h) ≤ length (set a.room.now a.at h) =
    room_left m a.node a.target c.requires.0 ne h eh a.at a.room.now c.requires.1 in (
      omega (arith, nears m a.node a.target c.requires.0 ne c.from-next.result (c.from-next.ensures ∙ eh)),
      (
        onward m a.node a.target c.requires.0 ne c.from-next.result (c.from-next.ensures ∙ eh),
        subst (λ (k : ℕ). a.at + 1 + length (route (state_of m) a.target k) ≤ length (set a.room.now a.at h))
            (sym c.from-next.ensures) left,
      ),
    )

pub returns : goal.returns
returns t c =
    let a = c.args in
    let eh = c.hop-hop.ensures ∙ ap hop_of c.entry.ensures in
    written (cells a.state.now) a.node a.target c.requires.0 c.if-node-target.false c.hop-hop.result eh a.at a.room.now c.requires.1
    c.follow.result _ (rw c.from-next.ensures at c.follow.ensures.0) (rw c.from-next.ensures at c.follow.ensures.1)
