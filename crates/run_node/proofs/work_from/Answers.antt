-- `work_from`: both loops keep that the work from here on is the work from the start; the outer one also, that the arc is rule 1's.
use Rattle.network.proofs.Laws.{laid}
use Rattle.method.specs.Rules.{Choice}
use Rattle.run_node.proofs.Limits.{sent_low, lp_low}
use Rattle.run_node.proofs.Loops.{going_trans, going_worked, going_working, chosen, stopped_there}
use Rattle.run_node.proofs.Loops.{able_there, waited_there, again₃, again₁, number_low, lp_of}
use Rattle.run_node.specs.Rules.{least}
use Rattle.run_cells.specs.Part.{Part, sent_count, cells}
use Rattle.run_cells.specs.Stores.{stopped_part}
use Rattle.run_cells.proofs.Loads.{sent_is}
use Rattle.run_cells.proofs.Stored.{blank, own_part, store_own, named}
use mathlib.Core.Path.{◌∙◌, sym, ap, refl}
use lib.ListN.{get_or}
use Prim.Native.Nat.{◌-◌}
use native.Mathlib.Omega.{arith}
use Rattle.run_node.proofs.work_from.Goals as goal

pub offset_bounds-state-node : goal.offset_bounds-state-node
offset_bounds-state-node c = omega (arith, number_low c.args.net.now c.requires.0)

pub bounds-state-node : goal.bounds-state-node
bounds-state-node c = omega (arith, number_low c.args.net.now c.requires.0)

pub overflow_add-state : goal.overflow_add-state
overflow_add-state c =
    let a = c.args in
    let s = c.choose.state in
    let low = number_low a.net.now c.requires.0 in
    let w = going_working c.choose.invariant.0 c.requires.0 in
    omega (
      arith,
      lp_of s a.node low.0 (omega (arith, low)),
      lp_low a.net.now.layout (laid a.net.now) w.0 (cells s) a.node w.1,
    )

pub offset_bounds-state-node-then-from-chosen : goal.offset_bounds-state-node-then-from-chosen
offset_bounds-state-node-then-from-chosen c = omega (arith, number_low c.args.net.now c.requires.0)

pub bounds-state-node-then-from-chosen : goal.bounds-state-node-then-from-chosen
bounds-state-node-then-from-chosen c = omega (arith, number_low c.args.net.now c.requires.0)

pub stop-requires : goal.stop-requires
stop-requires c =
    let a = c.args in
    let s = c.choose.state in
    let low = number_low a.net.now c.requires.0 in
    let w = going_working c.choose.invariant.0 c.requires.0 in
    omega (
      arith,
      sent_low a.net.now.layout (laid a.net.now) w.0 (cells s) a.node w.1,
      ap (λ (f : Part). f sent_count) (own_part s a.node blank low.0 (omega (arith, low))),
      sent_is (get_or s.parts (a.node - 1) blank),
    )

pub take-init : goal.take-init
take-init c =
    let a = c.args in
    let choose = c.choose in
    let low = number_low a.net.now c.requires.0 in
    chosen a.net.now.layout (laid a.net.now) a.node (cells choose.state) choose.chosen.sum choose.chosen.head _ _ choose.invariant.1
    (lp_of choose.state a.node low.0 (omega (arith, low))) refl (omega arith)

pub take-heard-requires : goal.take-heard-requires
take-heard-requires c =
    let a = c.args in
    let choose = c.choose in
    let take = c.take in
    able_there a.net.now.layout (laid a.net.now) a.node (cells choose.state) (cells take.state) choose.chosen.sum choose.chosen.head
    take.invariant (going_working choose.invariant.0 c.requires.0)

pub take-smaller : goal.take-smaller
take-smaller c =
    let a = c.args in
    let choose = c.choose in
    let take = c.take in
    let heard = c.take-heard in
    (again₃ a.net.now.layout (laid a.net.now) a.node (cells choose.state) (cells take.state) choose.chosen.sum choose.chosen.head
    take.invariant (cells heard.new.state) heard.result heard.ensures c.in-Label.is (going_working choose.invariant.0 c.requires.0)).1

pub take-preserved : goal.take-preserved
take-preserved c =
    let a = c.args in
    let choose = c.choose in
    let take = c.take in
    let heard = c.take-heard in
    (again₃ a.net.now.layout (laid a.net.now) a.node (cells choose.state) (cells take.state) choose.chosen.sum choose.chosen.head
    take.invariant (cells heard.new.state) heard.result heard.ensures c.in-Label.is (going_working choose.invariant.0 c.requires.0)).0

pub offset_bounds-state-node-in-choose : goal.offset_bounds-state-node-in-choose
offset_bounds-state-node-in-choose c = omega (arith, number_low c.args.net.now c.requires.0)

pub bounds-state-node-in-choose : goal.bounds-state-node-in-choose
bounds-state-node-in-choose c = omega (arith, number_low c.args.net.now c.requires.0)

pub choose-smaller : goal.choose-smaller
choose-smaller c =
    let a = c.args in
    let choose = c.choose in
    let take = c.take in
    let heard = c.take-heard in
    (again₁ a.net.now.layout (laid a.net.now) a.node (cells choose.state) (cells take.state) choose.chosen.sum choose.chosen.head
    take.invariant (cells heard.new.state) heard.result heard.ensures c.in-Length.is (going_working choose.invariant.0 c.requires.0)).1

pub choose-preserved : goal.choose-preserved
choose-preserved c =
    let a = c.args in
    let choose = c.choose in
    let take = c.take in
    let heard = c.take-heard in
    let s = heard.new.state in
    let low = number_low a.net.now c.requires.0 in
    let own = ap (λ (f : Part). least f 16) (sym (own_part s a.node blank low.0 (omega (arith, low)))) in (
      going_trans choose.invariant.0
          (again₁ a.net.now.layout (laid a.net.now) a.node (cells choose.state) (cells take.state) choose.chosen.sum choose.chosen.head
          take.invariant (cells s) heard.result heard.ensures c.in-Length.is (going_working choose.invariant.0 c.requires.0)).0,
      (c.choose-chosen.ensures.0.0 ∙ ap (λ (p : Choice). p.sum) own, c.choose-chosen.ensures.0.1 ∙ ap (λ (p : Choice). p.head) own),
    )

pub returns-then-from-chosen : goal.returns-then-from-chosen
returns-then-from-chosen c =
    let a = c.args in
    let choose = c.choose in
    let s = choose.state in
    let low = number_low a.net.now c.requires.0 in
    let own = own_part s a.node blank low.0 (omega (arith, low)) in
    going_worked choose.invariant.0
    (stopped_there a.net.now.layout (laid a.net.now) a.node (cells s) choose.chosen.sum choose.chosen.head _ _ choose.invariant.1
    (lp_of s a.node low.0 (omega (arith, low))) refl _ (omega arith)
    (named (c.stop.ensures ∙ ap stopped_part (sym own)) (store_own s a.node c.stop.new.self low.0 (omega (arith, low)))))

pub returns-in-Nothing : goal.returns-in-Nothing
returns-in-Nothing c =
    let a = c.args in
    let choose = c.choose in
    let take = c.take in
    let heard = c.take-heard in
    going_worked choose.invariant.0
    (waited_there a.net.now.layout (laid a.net.now) a.node (cells choose.state) (cells take.state) choose.chosen.sum choose.chosen.head
    take.invariant (cells heard.new.state) heard.result heard.ensures c.in-Nothing.is)
