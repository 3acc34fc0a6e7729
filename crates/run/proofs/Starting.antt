-- Starting a node over the run's state: `i` is the node's number as the place of its part is found by it.
use mathlib.Core.Path.{◌≡◌, ◌∙◌, sym, ap, subst}
use mathlib.Core.Logic.{◌⊎◌}
use Prim.Native.Nat.{ℕ, ◌-◌, ◌≤◌, ◌<◌}
use native.Mathlib.Omega.{arith}
use lib.ListN.{length, get_or, set}
use Rattle.method.specs.Network.{IsNode}
use Rattle.method.specs.Steps.{Kind, taken, idle, starting}
use Rattle.network.specs.declared.Layout.{Layout}
use Rattle.network.specs.declared.Network.{Network}
use Rattle.network.specs.Layout.{net_of, Laid}
use Rattle.network.proofs.Laws.{laid}
use Rattle.run_cells.specs.declared.Phase.TheVariants.{Unstarted, Started, Stopped}
use Rattle.run_cells.specs.declared.Part.{Part as PartInCode}
use Rattle.run_cells.specs.declared.State.{State}
use Rattle.run_cells.specs.Part.{Part, nodes_most, table_size, entry_most, sent_most, phase_at, sent_count, entry_count, phase_number}
use Rattle.run_cells.specs.Part.{phase_named, numbers, cells, state_of}
use Rattle.run_cells.specs.Stores.{Stored, begun_part}
use Rattle.run_cells.proofs.Loads.{sent_is, filled_is}
use Rattle.run_cells.proofs.Stored.{blank, Placed, own_part, store_own, named}
use Rattle.run_node.specs.Working.{Working, Worked}
use Rattle.run.specs.Resting.{Resting, Acted}
use Rattle.run.proofs.Phases.{own_phase, not_unstarted}
use Rattle.run.proofs.Rested.{i_node}
use Rattle.run.proofs.Acting.{started_already, blank_sent, blank_table, start_working, started_now}

module _ (net : Network) (s : State) (re : Resting net.layout (cells s)) (i node : ℕ) (e : i ≡ node) (at : IsNode net.layout.nodes node)
  where
    abbrev g : Layout
    g = net.layout

    la : Laid g
    la = laid net

    here : IsNode g.nodes i
    here = subst (λ (n : ℕ). IsNode g.nodes n) (sym e) at

    pub low : (1 ≤ i) × (i < table_size)
    low = i_node g la (cells s) re i here

    module _ (size : length s.parts ≡ nodes_most) where
      abbrev part : PartInCode
      part = get_or s.parts (i - 1) blank

      placed : Placed s i
      placed = omega (arith, low, size)

      own : cells s i ≡ numbers part
      own = own_part s i blank low.0 placed

      abbrev Starts : (ℕ → Part) → Kind → Type 0
      Starts n k = Acted g (cells s) node n k (starting (phase_named (cells s node phase_at)) (net_of g) (state_of (cells s)) node)

      pub idle_there : (part.phase ≡ Started) ⊎ (part.phase ≡ Stopped) → Starts (cells s) idle
      idle_there p =
          rw (← e) (started_already g la (cells s) re i here (λ q. not_unstarted part.phase p (sym (own_phase s i low.0 placed) ∙ q)))

      module _ (unstarted : part.phase ≡ Unstarted) where
        zero : cells s i phase_at ≡ 0
        zero = own_phase s i low.0 placed ∙ ap phase_number unstarted

        pub room : (node < table_size) × (part.sent < sent_most) × (part.filled < entry_most)
        room = (
          omega (arith, low, e),
          omega (arith, blank_sent g la (cells s) re i here zero, ap (λ (f : Part). f sent_count) own, sent_is part),
          omega (arith, blank_table g la (cells s) re i here zero, ap (λ (f : Part). f entry_count) own, filled_is part),
        )

        -- its part has begun
        module _ (p : PartInCode) (b : numbers p ≡ begun_part (numbers part) node) where
          abbrev begun : ℕ → Part
          begun = cells (record { parts = set s.parts (i - 1) p })

          stored : Stored (cells s) i (begun_part (cells s i) i) begun
          stored =
              named
              (b ∙ ap (begun_part (numbers part)) (sym e) ∙ ap (λ (f : Part). begun_part f i) (sym own))
              (store_own s i p low.0 placed)

          pub at_work : Working g begun i
          at_work = start_working g la (cells s) re i here zero begun stored

          pub started_there : (n : ℕ → Part) → Worked g begun i n → Starts n taken
          started_there n w = rw (← e) (started_now g la (cells s) re i here zero begun stored n w)
