-- The answers: of what is refused, of a room that is short, and from what the run has left.
use mathlib.Core.Path.{◌≡◌, sym, ap, ap₂, ◌∙◌}
use mathlib.Core.List.{List}
use Prim.Native.Nat.{ℕ, ◌≤◌, ◌<◌}
use native.Mathlib.Omega.{arith}
use lib.ListN.{length}
use borrow.Author.Tests.{lt-ltb, le-ltb}
use Rattle.std.proofs.Common.{Ok, Err}
use Rattle.method.specs.Network.{Net}
use Rattle.method.specs.Steps.{State, Counts, steps, run}
use Rattle.method.specs.Entries.{Entry, entry_of}
use Rattle.method.specs.Marks.{distance_of}
use Rattle.method.specs.Route.{way}
use Rattle.method.specs.Room.{begins}
use Rattle.method.proofs.Room.{written, left_alone}
use Rattle.refusal.specs.Rows.{refused, room_rows}
use Rattle.refusal.specs.Told.{number_of}
use Rattle.refusal.specs.declared.Reason.{Reason}
use Rattle.refusal.proofs.Rows.{else_zero, else_some}
use Rattle.refusal.proofs.Told.{some}
use Rattle.network.specs.Checked.{Checked}
use Rattle.network.specs.Found.{Finds}
use Rattle.network.specs.declared.Network.{Network}
use Rattle.run_cells.specs.Part.{Part, state_of}
use Rattle.run.specs.Ran.{Ran}
use Rattle.call.specs.Answers.{values, entry_values}
use Rattle.call.specs.Calls.{state_after, entry_rows, entry_refusal, entry_after, nodes_passed, route_refusal}
use Rattle.call.specs.Promises.{EntryPromise, RoutePromise}
use Rattle.call.proofs.Asked.{route_else}
use Rattle.call.proofs.Found.{refused_first}
use Rattle.call_ask.proofs.Asking.{question, same_refusal}

-- what is refused before the run is answered, and the room stays
module _ (net : Checked) (bs : List ℕ) (i y : ℕ) (reason : Reason) (is : entry_refusal net i y ≡ number_of reason) where
  ne : entry_refusal net i y ≡ 0 → ⊥
  ne z = omega (arith, some reason, is)

  pub entry_refused : EntryPromise net bs i y (number_of reason)
  entry_refused = sym is ∙ sym (else_some (entry_refusal net i y) (entry_values (entry_after net bs i y)) ne)

  pub route_refused : (room : List ℕ) → RoutePromise net bs i y room (number_of reason) room
  route_refused room =
      let q = refused (room_rows (length room) (length (nodes_passed net bs i y))) in
      let e : route_refusal net bs i y (length room) ≡ number_of reason =
      route_else net bs i y (length room) ∙ else_some (entry_refusal net i y) q ne ∙ is in
      let r : route_refusal net bs i y (length room) ≡ 0 → ⊥ = λ z. omega (arith, some reason, e) in
      record {
        answer = sym e ∙ sym (else_some (route_refusal net bs i y (length room)) _ r);
        left = sym (left_alone (route_refusal net bs i y (length room)) room _ r);
      }

-- a network that is refused
pub unfound : (net : Checked) (reason : Reason) (i y : ℕ) → Finds net (Err reason) → entry_refusal net i y ≡ number_of reason
unfound net reason i y is = sym (refused_first net reason is (refused (entry_rows net.meant i y)))

-- nothing is refused before the run
module _ (net : Checked) (a : Network) (finds : Finds net (Ok a)) (bs : List ℕ) (i y : ℕ) (none : 0 ≡ question a i y) (m : ℕ → Part)
    (c : Counts) (ran : Ran a.layout bs m c) where
  clear : entry_refusal net i y ≡ 0
  clear = same_refusal a i y net finds ∙ sym none

  state : state_of m ≡ state_after net bs
  state = ran.state ∙ ap (λ (b : Net). run b (steps bs)) finds.meant

  pub entry_answers : (e : Entry) → e ≡ entry_of (state_of m i).node y → EntryPromise net bs i y (entry_values e)
  entry_answers e is =
      ap entry_values is ∙ ap (λ (st : State). entry_values (entry_of (st i).node y)) state
      ∙ sym (else_zero (entry_refusal net i y) (entry_values (entry_after net bs i y)) clear)

  pub entry_same : (e : Entry) → e ≡ entry_of (state_of m i).node y → e ≡ entry_after net bs i y
  entry_same e is = is ∙ ap (λ (st : State). entry_of (st i).node y) state

  module _ (room : List ℕ) (k : ℕ) (count : k ≡ length (way (state_of m) y i)) where
    passes : k ≡ length (nodes_passed net bs i y)
    passes = count ∙ ap (λ (st : State). length (way st y i)) state

    pub route_short : length room < k → RoutePromise net bs i y room 13 room
    route_short lt =
        let e : route_refusal net bs i y (length room) ≡ 13 =
        route_else net bs i y (length room) ∙ else_zero (entry_refusal net i y) _ clear
        ∙ rw (lt-ltb (length room) (length (nodes_passed net bs i y)) (omega (arith, passes))) in
        record { answer = rw e; left = rw e }

    pub route_answers : k ≤ length room → (d : ℕ) (room' : List ℕ) → d ≡ distance_of (entry_of (state_of m i).node y)
        → room' ≡ begins (way (state_of m) y i) room → RoutePromise net bs i y room (values k d) room'
    route_answers le d room' ed eroom =
        let e : route_refusal net bs i y (length room) ≡ 0 =
        route_else net bs i y (length room) ∙ else_zero (entry_refusal net i y) _ clear
        ∙ rw (le-ltb (length room) (length (nodes_passed net bs i y)) (omega (arith, passes))) in
        record {
          answer =
              ap₂ values passes (ed ∙ ap (λ (st : State). distance_of (entry_of (st i).node y)) state)
              ∙ sym (else_zero (route_refusal net bs i y (length room)) _ e);
          left =
              eroom ∙ ap (λ (st : State). begins (way st y i) room) state
              ∙ sym (written (route_refusal net bs i y (length room)) room (begins (nodes_passed net bs i y) room) e);
        }
