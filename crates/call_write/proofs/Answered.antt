-- What `write` answers of a network that is refused, of a node outside 1 to n, of one that has not started, and of a file that is written.
use mathlib.Core.Path.{◌≡◌, refl, sym, ap, subst, ◌∙◌}
use mathlib.Core.Logic.{◌≢◌}
use mathlib.Core.Bool.{Bool, true, false, true≢false}
use mathlib.Core.List.{List, [], ◌∷◌}
use Prim.Native.Nat.{ℕ, ◌<◌}
use native.Mathlib.Omega.{arith}
use lib.Dec.{ltb}
use lib.ListN.{length}
use Rattle.method.specs.Network.{Net, IsNode}
use Rattle.method.specs.Rules.{unstarted}
use Rattle.method.specs.Steps.{State, Counts, steps}
use Rattle.method.specs.Entries.{phase}
use Rattle.method.specs.Room.{kept_if, begins}
use Rattle.method.proofs.Room.{left_alone}
use Rattle.refusal.specs.Rows.{Refusal, ◌when◌, first, refused, room_rows, answer, ◌else◌, outside}
use Rattle.refusal.proofs.Rows.{else_some}
use Rattle.network.specs.Checked.{Checked}
use Rattle.network.specs.Layout.{net_of, Laid}
use Rattle.network.specs.Found.{Finds}
use Rattle.network.specs.declared.Layout.{Layout}
use Rattle.network.specs.declared.Network.{Network}
use Rattle.network.proofs.Laws.{laid}
use Rattle.refusal.specs.Told.{number_of}
use Rattle.refusal.specs.declared.Reason.{Reason}
use Rattle.run_cells.specs.Part.{Part, state_of}
use Rattle.run.specs.Ran.{Ran}
use Rattle.table.specs.File.{one, node_file}
use Rattle.std.proofs.Common.{Result, Ok, Err}
use Rattle.table.proofs.Proved.{at_most_27}
use Rattle.call.specs.Answers.{values}
use Rattle.call.specs.Files.{outcome, room_after, outcome_answer}
use Rattle.call.specs.Calls.{nodes_of, is_unstarted, file_after, late_rows, write_rows, write_refusal}
use Rattle.call.specs.Promises.{WritePromise}
use Rattle.call.proofs.Found.{refused_first, is_refused, others_tell, of_meant}
use Rattle.call_write.specs.Filing.{held_file}
use Rattle.call_write.proofs.Records.{held_file_lem}

-- an outcome that one answer has room for
abbrev OneAnswer : Result ℕ Refusal → Type 0
OneAnswer (Ok k) = k < 256
OneAnswer (Err r) = Unit {0}

-- it fits one where what is to be written does
outcome_fits : (what room : List ℕ) → length what < 256 → OneAnswer (outcome what room)
outcome_fits what room lt = go (ltb (length room) (length what))
  where
    go : (b : Bool) → OneAnswer (answer (first (13 when b ∷ [])) Err (Ok (length what)))
    go true = tt
    go false = lt

-- an answer and a room after a refusal N, where `what` is to be written
abbrev Gives : ℕ → List ℕ → List ℕ → ℕ → List ℕ → Type 0
Gives N what room r room' = (r ≡ N else values (length what) 0) × (room' ≡ kept_if N room (begins what room))

-- what is written, or refused with 13
outcome_gives : (what room : List ℕ)
    → Gives (refused (room_rows (length room) (length what))) what room (outcome_answer (outcome what room)) (room_after what room)
outcome_gives what room = go (ltb (length room) (length what))
  where
    go : (b : Bool)
        → Gives (refused (13 when b ∷ [])) what room (outcome_answer (answer (first (13 when b ∷ [])) Err (Ok (length what))))
        (answer (first (13 when b ∷ [])) (λ r. room) (begins what room))
    go true = (refl, refl)
    go false = (refl, refl)

-- of a node that has started after the run of the steps
module _ (g : Layout) (bs : List ℕ) (m : ℕ → Part) (c : Counts) (ran : Ran g bs m c) (i : ℕ) where
  same_phase : (state_of m i).node.phase ≡ phase (net_of g) (steps bs) i
  same_phase = ap (λ (st : State). (st i).node.phase) ran.state

  module _ (up : is_unstarted (state_of m i).node.phase ≡ false) where
    pub has_started : phase (net_of g) (steps bs) i ≢ unstarted
    has_started e = true≢false (sym (ap is_unstarted (same_phase ∙ e)) ∙ up)

    module _ (laid : Laid g) where
      held : held_file g i (m i) ≡ node_file one (net_of g) (steps bs) i
      held = held_file_lem g bs m c laid ran i has_started

      -- the file fits one answer
      pub file_fits : IsNode (net_of g).n i → (room : List ℕ) (o : Result ℕ Refusal) → o ≡ outcome (held_file g i (m i)) room → OneAnswer o
      file_fits at room o e =
          let few = at_most_27 (net_of g) laid.accepted (steps bs) i (at, has_started) in
          subst OneAnswer (sym e) (outcome_fits (held_file g i (m i)) room (omega (arith, ap length held)))

-- a refused network is not run, and nothing is written
pub refused_answers : (net : Checked) (reason : Reason) (bs : List ℕ) (i : ℕ) (room : List ℕ) → Finds net (Err reason)
    → WritePromise net bs i room (number_of reason) room
refused_answers net reason bs i room is =
    let q = refused (write_rows net.meant (steps bs) i (length room)) in
    let r = is_refused net reason is q in
    record {
      answer = refused_first net reason is q ∙ sym (else_some (write_refusal net bs i (length room)) _ r);
      left = sym (left_alone (write_refusal net bs i (length room)) room _ r);
    }

module _ (net : Checked) (found : Network) (is : Finds net (Ok found)) (bs : List ℕ) (i : ℕ) (room : List ℕ) where
  abbrev g : Layout
  g = found.layout

  -- what else is refused leaves the room alone too
  other_answers : (N : ℕ) → N ≢ 0 → refused (write_rows net.meant (steps bs) i (length room)) ≡ N → WritePromise net bs i room N room
  other_answers N ne q =
      let e : write_refusal net bs i (length room) ≡ N = others_tell net found is _ ∙ q in
      record { answer = rw e (sym (else_some N _ ne)); left = rw e (sym (left_alone N room _ ne)) }

  -- a node that is asked for outside 1 to n
  pub outside_answers : outside g.nodes i ≡ true → WritePromise net bs i room 11 room
  outside_answers out =
      let e : outside (nodes_of net) i ≡ true = of_meant net found is (λ (a : Net). outside a.n i ≡ true) out in
      other_answers 11 (λ z. omega arith) (rw e)

  -- after the run of the steps, which is never refused, 12 and 13 are left
  module _ (within : outside g.nodes i ≡ false) (m : ℕ → Part) (c : Counts) (ran : Ran g bs m c) where
    late_tells : refused (write_rows net.meant (steps bs) i (length room)) ≡ refused (late_rows net.meant (steps bs) i (length room))
    late_tells =
        let e : outside (nodes_of net) i ≡ false = of_meant net found is (λ (a : Net). outside a.n i ≡ false) within in
        rw e

    tells_phase : is_unstarted (state_of m i).node.phase ≡ is_unstarted (phase net.meant (steps bs) i)
    tells_phase = ap is_unstarted (same_phase g bs m c ran i ∙ ap (λ (a : Net). phase a (steps bs) i) is.meant)

    -- a node that has not started has no file
    pub unstarted_answers : is_unstarted (state_of m i).node.phase ≡ true → WritePromise net bs i room 12 room
    unstarted_answers e =
        let u : is_unstarted (phase net.meant (steps bs) i) ≡ true = sym tells_phase ∙ e in
        other_answers 12 (λ z. omega arith) (late_tells ∙ rw u)

    -- the file of one that has is written, or refused with 13
    pub file_answers : is_unstarted (state_of m i).node.phase ≡ false → (o : Result ℕ Refusal) → o ≡ outcome (held_file g i (m i)) room
        → (room' : List ℕ) → room' ≡ room_after (held_file g i (m i)) room → WritePromise net bs i room (outcome_answer o) room'
    file_answers up o eo room' el =
        let same : held_file g i (m i) ≡ file_after net bs i =
        held g bs m c ran i up (laid found) ∙ ap (λ (a : Net). node_file one a (steps bs) i) is.meant in
        let u : is_unstarted (phase net.meant (steps bs) i) ≡ false = sym tells_phase ∙ up in
        let e : write_refusal net bs i (length room) ≡ refused (room_rows (length room) (length (file_after net bs i))) =
        others_tell net found is _ ∙ late_tells ∙ rw u in
        let gives = outcome_gives (file_after net bs i) room in
        record {
          answer = ap outcome_answer (eo ∙ ap (λ (w : List ℕ). outcome w room) same) ∙ rw e gives.0;
          left = el ∙ ap (λ (w : List ℕ). room_after w room) same ∙ rw e gives.1;
        }
