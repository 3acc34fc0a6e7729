-- `take`: waiting, or one message.
use mathlib.Core.Path.{sym, ap, subst, ◌∙◌}
use Prim.Native.Nat.{ℕ, ◌-◌}
use lib.ListN.{get_or}
use native.Mathlib.Omega.{arith}
use Rattle.std.specs.Prelude.{Some}
use Rattle.run_cells.specs.Part.{Part, sent_count, cells}
use Rattle.run_cells.specs.Stores.{Rises, waited}
use Rattle.run_cells.proofs.Loads.{sent_is}
use Rattle.run_cells.proofs.Stored.{blank, own_part, store_own, named}
use Rattle.run_node.specs.Rules.{hears, Room}
use Rattle.run_node.proofs.Coded.{takes_nothing, takes_one, same_without, room_after_lem, rises_after, sum_after}
use Rattle.run_node.proofs.take.Goals as goal

pub wait-requires : goal.wait-requires
wait-requires c =
    let a = c.args in
    let b = c.requires in
    let r = c.take.new.self in
    let own = own_part r a.node blank (omega (arith, b.own)) (omega (arith, b.own)) in
    let same = same_without (cells a.state.now) a.node a.chosen.head a.chosen.sum (cells r) c.in-None.ensures.1
    c.in-None.ensures.0 in (
      subst (λ (f : Part). Rises f a.chosen.sum) (sym same ∙ own) b.rises,
      omega (arith, b.sent, ap (λ (f : Part). f sent_count) (sym same ∙ own), sent_is (get_or r.parts (a.node - 1) blank)),
    )

pub hear-requires : goal.hear-requires
hear-requires c =
    let a = c.args in
    let b = c.requires in
    let r = c.take.new.self in
    let m = cells a.state.now in
    let own = own_part r a.node blank (omega (arith, b.own)) (omega (arith, b.own)) in
    let stored = c.in-Some.ensures.1 in
    let w = c.from.result in
    let some = ap (λ (k : ℕ). Some k) c.from.ensures ∙ c.in-Some.ensures.0 in (
      b.head.1,
      sum_after m a.node a.chosen.head a.chosen.sum (cells r) stored w some b,
      subst (λ (f : Part). Rises f a.chosen.sum) own (rises_after m a.node a.chosen.head a.chosen.sum (cells r) stored w some b),
      subst (λ (f : Part). Room f w) own (room_after_lem m a.node a.chosen.head a.chosen.sum (cells r) stored w some b),
    )

pub returns-in-None : goal.returns-in-None
returns-in-None c =
    let a = c.args in
    let b = c.requires in
    let r = c.take.new.self in
    let own = own_part r a.node blank (omega (arith, b.own)) (omega (arith, b.own)) in
    takes_nothing (cells a.state.now) a.node a.chosen.head a.chosen.sum (cells r)
    c.in-None.ensures.1 _ c.in-None.ensures.0
    (named (c.wait.ensures ∙ ap (λ (f : Part). waited f a.chosen.sum a.chosen.head) (sym own))
    (store_own r a.node c.wait.new.self (omega (arith, b.own)) (omega (arith, b.own))))

pub returns-in-Some : goal.returns-in-Some
returns-in-Some c =
    let a = c.args in
    let b = c.requires in
    let r = c.take.new.self in
    let w = c.from.result in
    let own = own_part r a.node blank (omega (arith, b.own)) (omega (arith, b.own)) in
    takes_one (cells a.state.now) a.node a.chosen.head a.chosen.sum (cells r)
    c.in-Some.ensures.1 w (ap (λ (k : ℕ). Some k) c.from.ensures ∙ c.in-Some.ensures.0) _ c.hear.result (
      named (c.hear.ensures.0 ∙ ap (λ (f : Part). hears f a.chosen.head a.chosen.sum w) (sym own))
          (store_own r a.node c.hear.new.part (omega (arith, b.own)) (omega (arith, b.own))),
      c.hear.ensures.1,
    )
