-- `choose`: head by head the least so far of each half, then the lesser of both.
use mathlib.Core.Path.{◌≡◌, ◌∙◌, sym, ap, ap₂}
use Prim.Native.Nat.{ℕ, ◌+◌, ◌-◌, ◌≤◌}
use native.Mathlib.Omega.{arith}
use Rattle.method.specs.Rules.{Choice}
use Rattle.run_cells.specs.Part.{Part, sums_at, no_sum, numbers}
use Rattle.run_cells.proofs.Loads.{sum_is}
use Rattle.run_node.specs.declared.Chosen.{Chosen}
use Rattle.run_node.specs.Rules.{least}
use Rattle.run_node.proofs.Halves.{arc_to, picked, after, least_suc, after_suc, none_least, least_head, halves, lesser_is}
use Rattle.run_node.proofs.choose.Goals as goal

pub loop-head-init : goal.loop-head-init
unfolding least after
loop-head-init c =
    let none : picked (record { sum = c.from.result; head = 0 }) ≡ record { sum = no_sum; head = 0 } =
    ap (λ (s : ℕ). record { sum = s; head = 0 }) c.from.ensures in
    (none, none)

pub loop-head-preserved : goal.loop-head-preserved
loop-head-preserved c =
    let p = c.args.part.now in
    let l = c.loop-head in
    let f : Part = numbers p in
    let h = l.head in
    let low : h ≤ 8 = omega arith in
    let k = h - 1 in
    let up : k + 1 ≡ h = omega arith in
    let again : k + 1 ≡ h + 1 - 1 = omega arith in
    let x : Chosen = record { sum = c.from-in-loop-head.result; head = h } in
    let y : Chosen = record { sum = c.from-in-loop-head-2.result; head = 8 + h } in
    let ex : picked x ≡ arc_to f (k + 1) =
    ap₂ (λ (s n : ℕ). record { sum = s; head = n })
    (c.from-in-loop-head.ensures ∙ sym (sum_is p h (omega arith)) ∙ ap (λ (n : ℕ). f (sums_at + n)) (sym up)) (sym up) in
    let ey : picked y ≡ arc_to f (8 + (k + 1)) =
    ap₂ (λ (s n : ℕ). record { sum = s; head = n })
    (c.from-in-loop-head-2.ensures ∙ sym (sum_is p (8 + h) (omega arith)) ∙ ap (λ (n : ℕ). f (sums_at + (8 + n))) (sym up))
    (ap (λ (n : ℕ). 8 + n) (sym up)) in (
      ap picked c.lesser-low.ensures ∙ lesser_is (least f k) (arc_to f (k + 1)) l.low x l.invariant.0 ex ∙ sym (least_suc f k)
          ∙ ap (least f) again,
      ap picked c.lesser-high.ensures ∙ lesser_is (after f 8 k) (arc_to f (8 + (k + 1))) l.high y l.invariant.1 ey ∙ sym (after_suc f 8 k)
          ∙ ap (after f 8) again,
    )

pub returns : goal.returns
returns c =
    let l = c.loop-head in
    let f : Part = numbers c.args.part.now in
    let e : l.head - 1 ≡ 8 = omega arith in
    let q : picked c.lesser.result ≡ least f 16 =
    ap picked c.lesser.ensures
    ∙ lesser_is (least f 8) (after f 8 8) l.low l.high (l.invariant.0 ∙ ap (least f) e) (l.invariant.1 ∙ ap (after f 8) e)
    ∙ sym (halves f 8 8) in
    let sum = ap (λ (p : Choice). p.sum) q in
    let head = ap (λ (p : Choice). p.head) q in
    ((sum, head), omega (arith, sum, none_least f 16), omega (arith, head, least_head f 16))
