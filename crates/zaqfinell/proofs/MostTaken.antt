-- K8: no run of an accepted network takes more steps than law m says, and a small ring takes as many.
use mathlib.Core.Path.{◌≡◌, refl, ap, subst, ◌∙◌}
use mathlib.Core.Logic.{◌≢◌}
use mathlib.Core.List.{List, [], ◌∷◌}
use Prim.Native.Nat.{ℕ, suc, ◌≤◌}
use native.Mathlib.Omega.{arith}
use lib.ListN.{length, get_or}
use Rattle.method.specs.Network.{Net, Accepted}
use Rattle.method.specs.Steps.{State, fresh, byte_step, steps, Kind, taken, idle, unknown, step, run_from, run, counted, counts_from}
use Rattle.method.specs.Steps.{counts}
use Rattle.method.specs.Bounds.{most_taken}
use Rattle.method.proofs.Proved.{laws as method-laws}
use Rattle.method.proofs.Taken.{sharp_le, at_most_61696}
use Rattle.method.proofs.Reached.{ring_taken}
use Rattle.network.specs.Refusal.{joined, lone_rows, arcs_rows}
use Rattle.network.specs.ArcList.{header_list_rows, list_rows}
use Rattle.network.specs.Checked.{Checked, IsAccepted, from_bytes, from_list}
use Rattle.network.proofs.Laws.{checks}
use Rattle.call.specs.Calls.{state_after, counts_of}
use Rattle.zaqfinell.specs.Apart.{most_in, ApartOf}
use Rattle.zaqfinell.specs.MostTaken.{kept_if_taken, taken_from, taken_of, FewTaken, ring, MostTaken}
use Rattle.zaqfinell.proofs.Apart.{apart}

-- A step that is not taken changes nothing, so it can be left out: what is left is as long as was counted, leads to the same state, and
-- nothing more can be left out of it.
module _ (net : Net) where
  abbrev Alone : State → List ℕ → List ℕ → Type 0
  Alone st bs rest =
      (length rest ≡ (counts_from net st (steps bs)).taken)
      × (run_from net st (steps rest) ≡ run_from net st (steps bs))
      × (taken_from net st rest ≡ rest)

  alone : (st : State) (bs : List ℕ) → Alone st bs (taken_from net st bs)
  unfolding counts_from run_from
  alone st [] = (refl, refl, refl)
  alone st (b ∷ bs) = by (step net st (byte_step b)).kind refl (alone next bs)
    where
      next : State
      next = (step net st (byte_step b)).state

      rest : List ℕ
      rest = taken_from net next bs

      -- a step more in front, of this kind
      More : Kind → Type 0
      More k =
          (length (kept_if_taken k b rest) ≡ (counted k (counts_from net next (steps bs))).taken)
          × (run_from net st (steps (kept_if_taken k b rest)) ≡ run_from net next (steps bs))
          × (taken_from net st (kept_if_taken k b rest) ≡ kept_if_taken k b rest)

      left_out : (step net st (byte_step b)).kind ≢ taken → Alone next bs rest
          → (run_from net st (steps rest) ≡ run_from net next (steps bs)) × (taken_from net st rest ≡ rest)
      left_out ne r =
          subst (λ (s : State). (run_from net s (steps rest) ≡ run_from net next (steps bs)) × (taken_from net s rest ≡ rest))
          ((method-laws net).g_no_change st (byte_step b) ne) (r.1, r.2)

      by : (k : Kind) → (step net st (byte_step b)).kind ≡ k → Alone next bs rest → More k
      by taken e r = (
        ap suc r.0,
        r.1,
        ap (λ (k : Kind). kept_if_taken k b (taken_from net next rest)) e ∙ ap (λ (l : List ℕ). b ∷ l) r.2,
      )
      by idle e r = let o = left_out (λ q. let z : ◌≡◌ {A = ℕ} 0 1 = cc in omega arith) r in (r.0, o.0, o.1)
      by unknown e r = let o = left_out (λ q. let z : ◌≡◌ {A = ℕ} 0 1 = cc in omega arith) r in (r.0, o.0, o.1)

kept : (net : Checked) (bs : List ℕ)
    → (length (taken_of net bs) ≡ (counts_of net bs).taken)
    × (state_after net (taken_of net bs) ≡ state_after net bs)
    × (taken_of net (taken_of net bs) ≡ taken_of net bs)
unfolding counts run
kept net bs = alone net.meant fresh bs

few_taken : (net : Checked) → IsAccepted net → Accepted net.meant → ApartOf net → FewTaken net
few_taken net accepted fit shows =
    record {
      most = most;
      sharp = λ bs. (method-laws net.meant).m_sharp fit.valid (steps bs);
      sharper = sharp_le net.meant fit.sizes.nodes.0 fit.sizes.lengths.0;
      answered = λ bs cn es r cn' es' q size run none is.
          let first = ap (λ (l : List ℕ). get_or l 0 0) (shows.counts_shows bs cn es r cn' es' run none size) in
          let bound = ap most_in is ∙ shows.most_shows accepted in
          omega (arith, most bs);
      kept = λ bs. (kept net bs).0;
      same_state = λ bs. (kept net bs).1;
      again = λ bs. (kept net bs).2;
      at_most_61696 = at_most_61696 net.meant fit.sizes;
    }
  where
    most : (bs : List ℕ) → (counts_of net bs).taken ≤ most_taken net.meant
    most bs = (method-laws net.meant).m_taken fit.sizes.nodes.0 fit.sizes.lengths.0 fit.valid (steps bs)

ring_accepted : IsAccepted ring
unfolding list_rows header_list_rows arcs_rows lone_rows joined
ring_accepted = refl

pub most_taken_lem : MostTaken
most_taken_lem =
    record {
      bytes = λ s accepted. few_taken (from_bytes s) accepted (checks.bytes_accepted s accepted) (apart.bytes s);
      list = λ n lmax ar accepted. few_taken (from_list n lmax ar) accepted (checks.list_accepted n lmax ar accepted)
          (apart.list n lmax ar);
      ring_accepted = ring_accepted;
      reached = ring_taken;
      reached_sharp = ring_taken;
    }
