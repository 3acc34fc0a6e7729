-- `push_end`: the byte begun is filled with zeros, or with ones where there is one.
use mathlib.Core.Path.{◌≡◌}
use Prim.Native.Nat.{◌-◌, ◌%◌}
use native.Mathlib.Omega.{arith}
use Rattle.table_writer.specs.Adds.{place}
use Rattle.table_writer.proofs.Writing.{end_marked, end_filled}
use Rattle.table_writer.proofs.Begun.push_end.Goals as goal

pub returns-then-stopped-clause-bits : goal.returns-then-stopped-clause-bits
returns-then-stopped-clause-bits c =
    let s = c.args.self.now in
    let width : 8 - place s % 8 ≡ 8 - s.count = omega (arith, s.small) in
    λ before F p. rw (c.if-stopped.true, ← end_marked (place s), width) (c.push.ensures.bits before F p)

pub returns-then-width-lt8-clause-bits : goal.returns-then-width-lt8-clause-bits
returns-then-width-lt8-clause-bits c =
    let s = c.args.self.now in
    let width : 8 - place s % 8 ≡ 8 - s.count = omega (arith, s.small) in
    λ before F p. rw (c.if-stopped.false, ← end_filled (place s) (omega (arith, s.small)), width, ← c.power.ensures.0)
    (c.push-then-width-lt8.ensures.bits before F p)
