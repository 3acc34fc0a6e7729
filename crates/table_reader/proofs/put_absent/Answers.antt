-- `put_absent`: one entry more at each turn.
use mathlib.Core.Path.{◌≡◌, refl, ◌∙◌}
use Prim.Native.Nat.{◌+◌, ◌-◌, suc}
use Rattle.table_reader.specs.Listing.{with_absent}
use native.Mathlib.Omega.{arith}
use borrow.Author.Rules.{rules}
use Rattle.table_reader.proofs.put_absent.Goals as goal

pub loop-y-init : goal.loop-y-init
unfolding with_absent
loop-y-init c = (omega arith, refl, refl)

pub loop-y-preserved : goal.loop-y-preserved
unfolding with_absent
loop-y-preserved c =
    let l = c.loop-y in
    let next : l.y + 1 - 1 ≡ suc (l.y - 1) = omega (arith, l.auto.y) in
    let here : suc (l.y - 1) ≡ l.y = omega (arith, l.auto.y) in
    (omega arith, search rules, rw next (rw here (c.put_entry.ensures ∙ rw l.invariant.2)))

pub returns : goal.returns
returns c =
    let l = c.loop-y in
    let end : l.y - 1 ≡ c.args.n = omega (arith, l.invariant.0) in
    rw end at l.invariant.2

pub returns-2 : goal.returns-2
unfolding with_absent
returns-2 c =
    let l = c.loop-y in
    let last : c.args.n ≡ suc (l.y - 1) = omega (arith, l.auto.y) in
    let here : suc (l.y - 1) ≡ l.y = omega (arith, l.auto.y) in
    rw last (rw here (c.put_entry.ensures ∙ rw l.invariant.2))
