-- `deliver`: kept, or worked on.
use mathlib.Core.Path.{◌≡◌, sym, ap, ◌∙◌}
use Prim.Native.Nat.{◌+◌, ◌/◌, ◌%◌}
use native.Mathlib.Omega.{arith}
use borrow.Author.Tests.{eqb-true, eqb-false}
use lib.ListN.{get_or}
use Rattle.network.proofs.Laws.{laid}
use Rattle.run_cells.specs.Part.{Part, phase_at, phase_number, waits_at, sums_at, cells}
use Rattle.run_cells.proofs.Loads.{sum_is}
use Rattle.run_cells.proofs.Stored.{blank, next_part}
use Rattle.run.proofs.Phases.{next_phase, not_started}
use Rattle.run.proofs.Rested.{sent_low}
use Rattle.run.proofs.Acting.{same_place, no_work, waits_elsewhere, delivery_working, chosen_again, works_on_lem}
use Rattle.run.proofs.deliver.Goals as goal

pub hand_over-requires : goal.hand_over-requires
hand_over-requires c =
    let a = c.args in
    let p = c.requires in
    omega (arith, p.3, sent_low a.net.now.layout (laid a.net.now) (cells a.state.now) p.0 (a.site % 16 + 1) p.2)

pub returns-then-not-waits_for : goal.returns-then-not-waits_for
returns-then-not-waits_for c =
    let a = c.args in
    let p = c.requires in
    let g = a.net.now.layout in
    let la = laid a.net.now in
    let m = cells a.state.now in
    let i = a.site / 16 + 1 in
    let h = a.site % 16 + 1 in
    let over = c.hand_over in
    let n = cells over.new.self in
    let same = same_place g la m p.0 i p.1 h p.2 p.3 n over.ensures waits_at (omega arith) in
    waits_elsewhere g la m p.0 i p.1 h p.2 p.3 n over.ensures
    (λ e. eqb-false (n i waits_at) h (sym c.waits_for.ensures ∙ c.if-not-waits_for.true) (same ∙ e))

pub returns-in-Unstarted : goal.returns-in-Unstarted
returns-in-Unstarted c =
    let a = c.args in
    let p = c.requires in
    let g = a.net.now.layout in
    let la = laid a.net.now in
    let m = cells a.state.now in
    let k = a.site / 16 in
    let h = a.site % 16 + 1 in
    let over = c.hand_over in
    let s = over.new.self in
    let same = same_place g la m p.0 (k + 1) p.1 h p.2 p.3 (cells s) over.ensures phase_at (omega arith) in
    no_work g la m p.0 (k + 1) p.1 h p.2 p.3 (cells s) over.ensures
    (λ e. not_started (get_or s.parts k blank).phase (rw c.places-tail.ensures.0 at c.in-Unstarted.is)
    (sym (next_phase s k (omega arith)) ∙ same ∙ e))

pub work_from-requires : goal.work_from-requires
work_from-requires c =
    let a = c.args in
    let p = c.requires in
    let g = a.net.now.layout in
    let la = laid a.net.now in
    let m = cells a.state.now in
    let k = a.site / 16 in
    let h = a.site % 16 + 1 in
    let over = c.hand_over in
    let s = over.new.self in
    let awake = same_place g la m p.0 (k + 1) p.1 h p.2 p.3 (cells s) over.ensures phase_at (omega arith) in
    let for-it = same_place g la m p.0 (k + 1) p.1 h p.2 p.3 (cells s) over.ensures waits_at (omega arith) in
    let up : m (k + 1) phase_at ≡ 1 = sym awake ∙ next_phase s k (omega arith)
    ∙ ap phase_number (rw c.places-tail.ensures.0 at c.in-Started.is) in
    let w : m (k + 1) waits_at ≡ h =
    sym for-it ∙ eqb-true (cells s (k + 1) waits_at) h (sym c.waits_for.ensures ∙ c.if-not-waits_for.false) in
    let sum = rw (c.places-tail.ensures.0, c.places-tail.ensures.1) at c.from.ensures
    ∙ sym (ap (λ (f : Part). f (sums_at + h)) (next_part s k blank (omega arith)) ∙ sum_is (get_or s.parts k blank) h (omega arith)) in
    rw (c.places-tail.ensures.0, c.places-tail.ensures.1) (
      delivery_working g la m p.0 (k + 1) p.1 h p.2 p.3 (cells s) over.ensures up,
      chosen_again g la m p.0 (k + 1) p.1 h p.2 p.3 (cells s) over.ensures up w _ sum,
    )

pub returns-in-Started : goal.returns-in-Started
returns-in-Started c =
    let a = c.args in
    let p = c.requires in
    let g = a.net.now.layout in
    let la = laid a.net.now in
    let m = cells a.state.now in
    let k = a.site / 16 in
    let h = a.site % 16 + 1 in
    let over = c.hand_over in
    let s = over.new.self in
    let awake = same_place g la m p.0 (k + 1) p.1 h p.2 p.3 (cells s) over.ensures phase_at (omega arith) in
    let up : m (k + 1) phase_at ≡ 1 = sym awake ∙ next_phase s k (omega arith)
    ∙ ap phase_number (rw c.places-tail.ensures.0 at c.in-Started.is) in
    works_on_lem g la m p.0 (k + 1) p.1 h p.2 p.3 (cells s) over.ensures up (cells c.work_from.new.state)
    (rw c.places-tail.ensures.0 at c.work_from.ensures)
