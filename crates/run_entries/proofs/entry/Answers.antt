-- `entry`: by the target's mark, and then by the phase.
use mathlib.Core.Path.{◌≡◌, ap, sym, ◌∙◌}
use mathlib.Core.Logic.{◌⊎◌, inl, inr}
use Prim.Native.Nat.{ℕ, ◌-◌, ◌<◌, ◌≤◌}
use native.Mathlib.Omega.{arith}
use lib.ListN.{get_or}
use Rattle.run_cells.specs.declared.Phase.{Phase}
use Rattle.run_cells.specs.declared.Phase.TheVariants.{Unstarted, Started}
use Rattle.run_cells.specs.Part.{entry_most, phase_number, cells}
use Rattle.run_cells.proofs.Stored.{blank}
use Rattle.run_cells.proofs.Cleared.{nobody}
use Rattle.run.proofs.Phases.{own_phase}
use Rattle.run_entries.proofs.Reading.{marked, entry_parts, own_mark, known_entry, stopped_entry, other_entry}
use Rattle.run_entries.proofs.entry.Goals as goal

pub bounds-part-from : goal.bounds-part-from
bounds-part-from c =
    let s = c.args.state.now in
    let p = c.requires in
    omega (arith, own_mark s c.args.node c.args.target p.0 (omega arith) p.2, marked (cells s c.args.node) c.args.target p.2 p.3)

pub returns-then-mark-ne0 : goal.returns-then-mark-ne0
returns-then-mark-ne0 c =
    let s = c.args.state.now in
    let i = c.args.node in
    let y = c.args.target in
    let p = c.requires in
    let mark = own_mark s i y p.0 (omega arith) p.2 in
    let part = get_or s.parts (i - 1) blank in
    let k = get_or part.marks y 0 in
    let low : k - 1 < entry_most = omega (arith, mark, marked (cells s i) y p.2 p.3, c.if-mark-ne0.true) in
    let e = entry_parts s i (k - 1) p.0 (omega arith) low in
    c.from-then-mark-ne0.ensures
    ∙ known_entry (cells s i) y p.2 p.3.marks k _ _ mark c.if-mark-ne0.true
    (e.0 ∙ ap (λ (n : ℕ). (get_or part.entries n nobody).distance) (sym c.from.ensures))
    (e.1 ∙ ap (λ (n : ℕ). (get_or part.entries n nobody).hop) (sym c.from.ensures))

pub returns-in-Stopped : goal.returns-in-Stopped
returns-in-Stopped c =
    let s = c.args.state.now in
    let i = c.args.node in
    let p = c.requires in
    stopped_entry (cells s i) c.args.target p.2 p.3.marks (own_mark s i c.args.target p.0 (omega arith) p.2 ∙ c.if-mark-ne0.false)
    (own_phase s i p.0 (omega arith) ∙ ap phase_number c.in-Stopped.is)

before_stop : (p : Phase) → (p ≡ Unstarted) ⊎ (p ≡ Started) → phase_number p ≤ 1
before_stop p (inl e) = omega (arith, ap phase_number e)
before_stop p (inr e) = omega (arith, ap phase_number e)

pub returns-in-Unstarted : goal.returns-in-Unstarted
returns-in-Unstarted c =
    let s = c.args.state.now in
    let i = c.args.node in
    let p = c.requires in
    other_entry (cells s i) c.args.target p.2 p.3.marks (own_mark s i c.args.target p.0 (omega arith) p.2 ∙ c.if-mark-ne0.false)
    (omega (arith, own_phase s i p.0 (omega arith), before_stop (get_or s.parts (i - 1) blank).phase c.in-Unstarted.is))
