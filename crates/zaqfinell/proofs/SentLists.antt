-- K6: no sent list of an accepted network gets longer than law l says, and a small house reaches it.
use mathlib.Core.Path.{refl}
use mathlib.Core.List.{List}
use Prim.Native.Nat.{ℕ, ◌≤◌}
use native.Mathlib.Omega.{arith}
use Rattle.method.specs.Network.{IsNode, Accepted}
use Rattle.method.specs.Steps.{steps}
use Rattle.method.specs.Bounds.{most_sent}
use Rattle.method.proofs.Proved.{laws as method-laws}
use Rattle.method.proofs.Tight.{at_most_243}
use Rattle.method.proofs.Reached.{line_sent}
use Rattle.network.specs.Refusal.{joined, lone_rows, arcs_rows}
use Rattle.network.specs.ArcList.{header_list_rows, list_rows}
use Rattle.network.specs.Checked.{Checked, IsAccepted, from_bytes, from_list}
use Rattle.network.proofs.Laws.{checks}
use Rattle.call.specs.Calls.{nodes_of}
use Rattle.zaqfinell.specs.SentLists.{sent_by, FewSent, line, SentLists}

fit_by : (net : Checked) → Accepted net.meant → FewSent net
fit_by net fit =
    record { sent = sent; at_most_243 = λ bs i at. omega (arith, sent bs i at, at_most_243 net.meant fit.sizes) }
  where
    sent : (bs : List ℕ) (i : ℕ) → IsNode (nodes_of net) i → sent_by net bs i ≤ most_sent net.meant
    sent bs i at = (method-laws net.meant).l_sent fit.valid (steps bs) i at

line_accepted : IsAccepted line
unfolding list_rows header_list_rows arcs_rows lone_rows joined
line_accepted = refl

pub sent_lists : SentLists
sent_lists =
    record {
      bytes = λ s accepted. fit_by (from_bytes s) (checks.bytes_accepted s accepted);
      list = λ n lmax ar accepted. fit_by (from_list n lmax ar) (checks.list_accepted n lmax ar accepted);
      line_accepted = line_accepted;
      reached = line_sent;
    }
