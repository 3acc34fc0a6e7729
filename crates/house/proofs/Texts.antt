-- The text of a run: that of the refusal, or of the counts and entries that were handed over.
use mathlib.Core.Path.{◌≡◌, refl, sym, ap, ap₂, subst, ◌∙◌}
use mathlib.Core.List.{List}
use Prim.Native.Nat.{ℕ, ◌+◌, ◌*◌, ◌≤◌, ◌<◌}
use native.Mathlib.Nat.{mul-le-mul}
use native.Mathlib.Omega.{arith}
use lib.ListN.{length, length-append, get_or, drop}
use borrow.Author.Tests.{le-ltb}
use Rattle.method.specs.Network.{Net, IsNode}
use Rattle.method.specs.Steps.{steps}
use Rattle.method.specs.Marks.{place}
use Rattle.method.specs.Room.{begins}
use Rattle.method.proofs.Room.{written}
use Rattle.method.proofs.EntryNumbers.{length_rows, stands_on, place_within, rows_stand}
use Rattle.method.proofs.Proved.{laws as method-laws}
use Rattle.refusal.specs.Told.{number_of}
use Rattle.refusal.specs.declared.Reason.{Reason}
use Rattle.refusal.proofs.Rows.{answer_by_lem}
use Rattle.refusal.proofs.Told.{some}
use Rattle.network.specs.Checked.{Checked}
use Rattle.network.specs.Found.{Finds}
use Rattle.network.specs.declared.Network.{Network}
use Rattle.house_text.specs.Lines.{house_text, refused_line}
use Rattle.house_text.specs.Handed.{entry_by, handed_entry}
use Rattle.house_words.specs.Room.{Front}
use Rattle.house_text.proofs.Laws.{laws as text-laws}
use Rattle.call.specs.Calls.{nodes_of, entry_after, run_refusal, counts_after, entries_after}
use Rattle.call.specs.Promises.{RunPromise}
use Rattle.call.proofs.Found.{accepted, of_meant}
use Rattle.std.proofs.Common.{Ok}
use Rattle.house.specs.House.{text_of, text_for}

-- the same text
pub same_front : (room after : List ℕ) (r : ℕ) (t u : List ℕ) → t ≡ u → Front room t after r → Front room u after r
same_front room after r t u e front = subst (λ (t : List ℕ). Front room t after r) e front

-- the text ends within the room
pub within_room : (room text after : List ℕ) (r : ℕ) → Front room text after r → r ≤ length after
within_room room text after r front =
    let all = ap (λ (s : List ℕ). length s) front.holds in
    let sum = length-append text (drop (length text) room) in
    omega (arith, front.whole)

-- 13 does not come up: the entries of 16 nodes have room
module _ (net : Checked) (a : Network) (is : Finds net (Ok a)) where
  few : (nodes_of net ≤ 16) × (nodes_of net * nodes_of net ≤ 16 * 16)
  few = let le = (accepted net a is).sizes.nodes.1 in (le, mul-le-mul le le)

  same_nodes : a.layout.nodes ≡ nodes_of net
  same_nodes = of_meant net a is (λ (m : Net). a.layout.nodes ≡ m.n) refl

  pub nodes_few : a.layout.nodes ≤ 16
  nodes_few = rw same_nodes few.0

  module _ (room : List ℕ) (wide : 2 * (16 * 16) ≤ length room) where
    pub no_thirteen : run_refusal net (length room) ≡ 0
    no_thirteen = rw (← is.refused, le-ltb (length room) (2 * (nodes_of net * nodes_of net)) (omega (arith, few))) refl

    module _ (bs numbers : List ℕ) (r : ℕ) (numbers' room' : List ℕ) (ran : RunPromise net bs numbers room r numbers' room') where
      -- the entries that stand there are the run's: a known distance is no mark
      same_entry : (i k : ℕ) → IsNode (nodes_of net) i → IsNode (nodes_of net) k
          → handed_entry (nodes_of net) (begins (entries_after net bs) room) i k ≡ entry_after net bs i k
      same_entry i k at to =
          let n = nodes_of net in
          let rows = entries_after net bs in
          let p = place n i k in
          let within : p + 1 < length rows = omega (arith, place_within n n i k at to, length_rows (entry_after net bs) n n) in
          let there = rows_stand (entry_after net bs) n n i k at to in
          let s = stands_on rows (drop (length rows) room) p (entry_after net bs i k) within there in
          let fit = accepted net a is in
          ap₂ entry_by s.0 s.1
          ∙ text-laws.handed (entry_after net bs i k)
          (λ d h e. (method-laws net.meant).j_no_mark fit.sizes fit.valid (steps bs) i k d h at e)

      -- so the text of what was handed over is the run's
      pub handed_text : house_text (get_or numbers' 0 0) (get_or numbers' 1 0) (get_or numbers' 2 0) (get_or numbers' 3 0) a.layout.nodes
          (handed_entry a.layout.nodes room')
          ≡ text_for net bs
      handed_text =
          rw (
            ran.counted ∙ written (run_refusal net (length room)) numbers (begins (counts_after net bs) numbers) no_thirteen,
            ran.left ∙ written (run_refusal net (length room)) room (begins (entries_after net bs) room) no_thirteen,
            same_nodes,
          )
          (text-laws.same_text _ _ _ _ (nodes_of net) _ (entry_after net bs) same_entry
          ∙ ap (λ (N : ℕ). text_of N net.meant (steps bs)) is.refused)

-- the text of a refusal is its line
pub refused_text : (net : Checked) (bs : List ℕ) (reason : Reason) → number_of reason ≡ net.refused
    → refused_line (number_of reason) ≡ text_for net bs
refused_text net bs reason is =
    sym (answer_by_lem (number_of reason) (refused_line (number_of reason)) _ (λ z. omega (arith, some reason)))
    ∙ ap (λ (N : ℕ). text_of N net.meant (steps bs)) is
