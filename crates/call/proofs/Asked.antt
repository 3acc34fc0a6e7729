-- What is known where a call that takes a network refuses nothing: the network is accepted, and the nodes asked for are in it.
use mathlib.Core.Path.{◌≡◌, refl, sym, ap, ◌∙◌}
use mathlib.Core.Logic.{◌≢◌}
use mathlib.Core.Bool.{false}
use mathlib.Core.List.{List}
use Prim.Native.Nat.{ℕ}
use lib.ListN.{length}
use Rattle.method.specs.Network.{IsNode, Accepted}
use Rattle.method.specs.Rules.{Phase, unstarted, started, stopped}
use Rattle.refusal.specs.Rows.{refused, room_rows, ◌else◌}
use Rattle.refusal.proofs.Rows.{clear, rows_else, else_both, else_assoc}
use Rattle.network.specs.Checked.{Checked, OfMethod}
use Rattle.refusal.proofs.Tests.{inside}
use Rattle.call.specs.Calls.{nodes_of, is_unstarted, entry_rows, entry_refusal, nodes_passed, route_refusal}

-- the network is accepted, and node and target are in it
pub record Asked (net : Checked) (i y : ℕ) : Type 0 where
  pub taken : net.refused ≡ 0
  pub accepted : Accepted net.meant
  pub node : IsNode (nodes_of net) i
  pub target : IsNode (nodes_of net) y

pub asked : (net : Checked) → OfMethod net → (i y : ℕ) → entry_refusal net i y ≡ 0 → Asked net i y
asked net sound i y e =
    let both = else_both net.refused _ e in
    let c = clear (entry_rows net.meant i y) both.1 in
    record {
      taken = both.0;
      accepted = sound both.0;
      node = inside (nodes_of net) i c.0;
      target = inside (nodes_of net) y c.1.0;
    }

-- 12 is not given of a node that has started
pub not_unstarted : (ph : Phase) → ph ≢ unstarted → is_unstarted ph ≡ false
not_unstarted unstarted up = absurd (up refl)
not_unstarted started up = refl
not_unstarted stopped up = refl

-- a route is refused as an entry is, and then for its room
pub route_else : (net : Checked) (bs : List ℕ) (i y wide : ℕ)
    → route_refusal net bs i y wide ≡ entry_refusal net i y else refused (room_rows wide (length (nodes_passed net bs i y)))
route_else net bs i y wide =
    let room = room_rows wide (length (nodes_passed net bs i y)) in
    ap (λ (q : ℕ). net.refused else q) (rows_else (entry_rows net.meant i y) room)
    ∙ sym (else_assoc net.refused (refused (entry_rows net.meant i y)) (refused room))
