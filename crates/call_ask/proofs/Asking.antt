-- What is asked of an accepted network, and where nothing is refused, what the run leaves can be asked.
use mathlib.Core.Path.{◌≡◌, sym, ap, subst, ◌∙◌}
use mathlib.Core.List.{List, ◌++◌}
use Prim.Native.Nat.{ℕ, ◌<◌}
use lib.ListN.{length}
use Rattle.std.proofs.Common.{Ok}
use Rattle.method.specs.Network.{Net}
use Rattle.method.specs.Steps.{State, Counts, steps}
use Rattle.method.specs.Entries.{Entry, entry_of}
use Rattle.method.specs.Marks.{hop_of}
use Rattle.method.specs.Route.{way}
use Rattle.method.proofs.Bounded.{hop_bound}
use Rattle.refusal.specs.Rows.{refused, ask_rows}
use Rattle.refusal.proofs.Rows.{clear}
use Rattle.network.specs.Layout.{net_of}
use Rattle.network.specs.Checked.{Checked}
use Rattle.network.specs.Found.{Finds}
use Rattle.network.specs.declared.Network.{Network}
use Rattle.network.proofs.Laws.{laid}
use Rattle.refusal.proofs.Tests.{inside}
use Rattle.run_cells.specs.Part.{Part, state_of}
use Rattle.run.specs.Ran.{Ran}
use Rattle.run_entries.proofs.Reading.{ran_entry}
use Rattle.run_route.specs.Asked.{Asked}
use Rattle.call.specs.Calls.{entry_rows, entry_refusal}
use Rattle.call.proofs.Found.{others_tell}
use Rattle.call.proofs.WayFew.{way_few}

module _ (a : Network) (i y : ℕ) where
  -- what is refused of a question
  abbrev pub question : ℕ
  question = refused (ask_rows a.layout.nodes i ++ ask_rows a.layout.nodes y)

  pub same_refusal : (net : Checked) → Finds net (Ok a) → entry_refusal net i y ≡ question
  same_refusal net finds = others_tell net a finds _ ∙ ap (λ (b : Net). refused (entry_rows b i y)) (sym finds.meant)

  -- where nothing is
  pub asks : 0 ≡ question → (bs : List ℕ) (m : ℕ → Part) (c : Counts) → Ran a.layout bs m c → Asked m i y
  asks none bs m c ran =
      let ends = clear (ask_rows a.layout.nodes i ++ ask_rows a.layout.nodes y) (sym none) in
      record {
        net = a.layout;
        bytes = bs;
        counts = c;
        accepted = (laid a).accepted;
        ran = ran;
        node = inside a.layout.nodes i ends.0;
        target = inside a.layout.nodes y ends.1.0;
      }

-- what is asked for is small
module _ (m : ℕ → Part) (i y : ℕ) (q : Asked m i y) where
  pub hop_low : hop_of (entry_of (state_of m i).node y) < 256
  hop_low =
      subst (λ (x : Entry). hop_of x < 256) (sym (ran_entry q.net q.bytes m q.counts q.ran i y))
      (hop_bound (net_of q.net) q.accepted.valid (steps q.bytes) q.accepted.sizes i y)

  pub passed_low : length (way (state_of m) y i) < 16
  passed_low =
      subst (λ (st : State). length (way st y i) < 16) (sym q.ran.state)
      (way_few (net_of q.net) q.accepted (steps q.bytes) i y q.node)
