-- `take`: a store in one part, and a message of another.
use mathlib.Core.Path.{ap, sym, ◌∙◌}
use Prim.Native.Nat.{ℕ, ◌+◌, ◌-◌}
use lib.ListN.{get_or, set, length-set}
use native.Mathlib.Omega.{arith}
use Rattle.std.specs.Prelude.{Some}
use Rattle.run_cells.specs.declared.State.{State}
use Rattle.run_cells.specs.Part.{Part, messages_at, cells}
use Rattle.run_cells.specs.Stores.{Stored, waiting, placed, took}
use Rattle.run_cells.proofs.Stored.{blank, own_part, own_message, store_own, named, waits_at_place, taking_reads}
use Rattle.run_cells.proofs.State.take.Goals as goal

pub returns-in_err-place : goal.returns-in_err-place
returns-in_err-place c =
    let s = c.args.self.now in
    let i = c.args.node in
    let h = c.args.head in
    let own = own_part s i blank (omega arith) (omega arith) in (
      c.from_residual.ensures
          ∙ ap (placed (cells s h)) (sym c.in_err-place.was ∙ c.take.ensures.1 ∙ ap (λ (f : Part). waiting f h) (sym own)),
      named (c.take.ensures.0 ∙ ap (λ (f : Part). took f h) (sym own)) (store_own s i c.take.new.self (omega arith) (omega arith)),
    )

pub bounds-self-from : goal.bounds-self-from
bounds-self-from c =
    let s = c.args.self.now in
    let i = c.args.node in
    let h = c.args.head in
    let own = own_part s i blank (omega arith) (omega arith) in
    let w = waits_at_place (cells s i) h c.in_ok-place.place
    (sym c.in_ok-place.was ∙ c.take.ensures.1 ∙ ap (λ (f : Part). waiting f h) (sym own)) in
    omega (arith, c.from.ensures, w.0, w.1, c.requires.4 w.1)

pub returns : goal.returns
returns c =
    let s = c.args.self.now in
    let i = c.args.node in
    let h = c.args.head in
    let t = c.in_ok-place.place in
    let n : State = record { parts = set s.parts (i - 1) c.take.new.self } in
    let own = own_part s i blank (omega arith) (omega arith) in
    let stored : Stored (cells s) i (took (cells s i) h) (cells n) =
    named (c.take.ensures.0 ∙ ap (λ (f : Part). took f h) (sym own)) (store_own s i c.take.new.self (omega arith) (omega arith)) in (
      ap Some
          (ap (λ (k : ℕ). get_or (get_or n.parts (h - 1) blank).messages k 0) c.from.ensures
          ∙ sym (own_message n h t (omega arith) (simp length-set (omega arith), omega arith))
          ∙ taking_reads h h (messages_at + t) stored (omega arith))
          ∙ ap (placed (cells s h)) (sym c.in_ok-place.was ∙ c.take.ensures.1 ∙ ap (λ (f : Part). waiting f h) (sym own)),
      stored,
    )
