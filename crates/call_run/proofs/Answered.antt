-- What is answered of a network that is refused, of a room that is short, and of a run: the run refuses nothing.
use mathlib.Core.Path.{◌≡◌, refl, sym, ap, ap₂, ◌∙◌}
use mathlib.Core.List.{List, [], ◌∷◌}
use Prim.Native.Nat.{ℕ, ◌*◌, ◌≤◌, ◌<◌}
use native.Mathlib.Omega.{arith}
use lib.ListN.{length}
use lib.Seq.{sets}
use borrow.Author.Tests.{lt-ltb, le-ltb}
use Rattle.method.specs.Network.{Net}
use Rattle.method.specs.Steps.{State, Counts, steps, run, counts}
use Rattle.method.specs.Entries.{stopped_to, entry_of}
use Rattle.method.specs.Marks.{row_numbers}
use Rattle.method.specs.Room.{begins}
use Rattle.method.proofs.Room.{written, left_alone, sets_begins}
use Rattle.method.proofs.EntryNumbers.{length_rows}
use Rattle.std.proofs.Common.{Ok, Err}
use Rattle.refusal.specs.Rows.{refused}
use Rattle.refusal.specs.Told.{number_of}
use Rattle.refusal.specs.declared.Reason.{Reason}
use Rattle.network.specs.Checked.{Checked}
use Rattle.network.specs.Found.{Finds}
use Rattle.network.specs.declared.Network.{Network}
use Rattle.run_cells.specs.Part.{Part, state_of}
use Rattle.run.specs.Ran.{Ran, tallied}
use Rattle.call.specs.Calls.{nodes_of, entry_after, run_rows, run_refusal, count_list, counts_after, entries_after}
use Rattle.call.specs.Promises.{RunPromise}
use Rattle.call.proofs.Found.{refused_first, is_refused, others_tell}

-- four numbers fill a room of four
filled : (room : List ℕ) (t i u k : ℕ) → length room ≡ 4 → t ∷ i ∷ u ∷ k ∷ [] ≡ begins (t ∷ i ∷ u ∷ k ∷ []) room
filled [] t i u k e = absurd (omega arith)
filled (a ∷ []) t i u k e = absurd (omega arith)
filled (a ∷ b ∷ []) t i u k e = absurd (omega arith)
filled (a ∷ b ∷ c ∷ []) t i u k e = absurd (omega arith)
filled (a ∷ b ∷ c ∷ d ∷ []) t i u k e = refl
filled (a ∷ b ∷ c ∷ d ∷ e ∷ room) t i u k f = absurd (omega arith)

-- a refused network is not run, and nothing is written
pub refused_answers : (net : Checked) (reason : Reason) (bs numbers room : List ℕ) → Finds net (Err reason)
    → RunPromise net bs numbers room (number_of reason) numbers room
refused_answers net reason bs numbers room is =
    let q = refused (run_rows net.meant (length room)) in
    let r = is_refused net reason is q in
    record {
      answer = refused_first net reason is q;
      counted = sym (left_alone (run_refusal net (length room)) numbers _ r);
      left = sym (left_alone (run_refusal net (length room)) room _ r);
    }

module _ (net : Checked) (found : Network) (is : Finds net (Ok found)) (bs numbers room : List ℕ) where
  abbrev n : ℕ
  n = found.layout.nodes

  same_nodes : n ≡ nodes_of net
  same_nodes = ap (λ (a : Net). a.n) is.meant

  -- nothing is written in a room that is short
  pub short_answers : length room < 2 * (n * n) → RunPromise net bs numbers room 13 numbers room
  short_answers lt =
      let wide : length room < 2 * (nodes_of net * nodes_of net) = rw (← same_nodes) lt in
      let e : run_refusal net (length room) ≡ 13 =
      others_tell net found is _ ∙ rw (lt-ltb (length room) (2 * (nodes_of net * nodes_of net)) wide) in
      record { answer = sym e; counted = rw e; left = rw e }

  -- what the run leaves is what is answered
  pub run_answers : (m : ℕ → Part) (t i u stopped : ℕ) (room' : List ℕ) → 2 * (n * n) ≤ length room → length numbers ≡ 4
      → Ran found.layout bs m (tallied t i u) → stopped ≡ stopped_to (state_of m) n
      → room' ≡ sets room 0 (row_numbers (λ i. entry_of (state_of m i).node) n n)
      → RunPromise net bs numbers room 0 (t ∷ i ∷ u ∷ stopped ∷ []) room'
  run_answers m t i u stopped room' le four ran S R =
      let wide : 2 * (nodes_of net * nodes_of net) ≤ length room = rw (← same_nodes) le in
      let e : run_refusal net (length room) ≡ 0 =
      others_tell net found is _ ∙ rw (le-ltb (length room) (2 * (nodes_of net * nodes_of net)) wide) in
      let same = is.meant in
      record {
        answer = sym e;
        counted =
            filled numbers t i u stopped four
            ∙ ap₂ (λ (c : Counts) (k : ℕ). begins (count_list c k) numbers) (ran.counted ∙ ap (λ (a : Net). counts a (steps bs)) same)
            (S ∙ ap₂ (λ (st : State) (k : ℕ). stopped_to st k) (ran.state ∙ ap (λ (a : Net). run a (steps bs)) same) same_nodes)
            ∙ sym (written (run_refusal net (length room)) numbers (begins (counts_after net bs) numbers) e);
        left =
            R
            ∙ ap₂ (λ (st : State) (k : ℕ). sets room 0 (row_numbers (λ i. entry_of (st i).node) k k))
            (ran.state ∙ ap (λ (a : Net). run a (steps bs)) same)
            same_nodes
            ∙ sets_begins (entries_after net bs) room (omega (arith, length_rows (entry_after net bs) (nodes_of net) (nodes_of net)))
            ∙ sym (written (run_refusal net (length room)) room (begins (entries_after net bs) room) e);
      }
