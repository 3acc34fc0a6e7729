-- `put_arcs`: the arcs that are left, written from their byte on, leave the room as all of them do.
use mathlib.Core.Path.{◌≡◌, ◌∙◌}
use Prim.Native.Nat.{◌/◌}
use Rattle.network_pack.proofs.Written.{pair_written, last_written, all_written}
use native.Mathlib.Omega.{arith}
use Rattle.network_pack.proofs.put_arcs.Goals as goal

pub put_pair-requires : goal.put_pair-requires
put_pair-requires c = (c.arc_at.ensures.fits, c.arc_at-in-loop-k.ensures.fits, omega (arith, c.requires))

pub loop-k-preserved : goal.loop-k-preserved
loop-k-preserved c =
    let l = c.loop-k in
    pair_written c.args.net.now.layout l.room _ c.args.net.now.layout.count l.k _ _ (omega arith) c.arc_at.ensures.laid
    c.arc_at-in-loop-k.ensures.laid c.put_pair.ensures ∙ l.invariant

pub put_last-requires : goal.put_last-requires
put_last-requires c = (c.arc_at-then-m-eq1.ensures.fits, omega (arith, c.requires))

pub returns-then-m-eq1 : goal.returns-then-m-eq1
returns-then-m-eq1 c =
    let g = c.args.net.now.layout in
    let k : c.loop-k.k ≡ g.count / 2 = omega arith in
    let m : c.from-m.result ≡ g.count = omega arith in
    let stored = rw m at c.put_last.ensures in
    let last = rw m at c.arc_at-then-m-eq1.ensures.laid in
    last_written g c.loop-k.room _ g.count _ (omega arith) last stored ∙ rw k at c.loop-k.invariant

pub returns-else-m-eq1 : goal.returns-else-m-eq1
returns-else-m-eq1 c =
    let g = c.args.net.now.layout in
    let k : c.loop-k.k ≡ g.count / 2 = omega arith in
    all_written g c.loop-k.room g.count (omega arith) ∙ rw k at c.loop-k.invariant
