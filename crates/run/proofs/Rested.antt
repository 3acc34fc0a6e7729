-- What is known of a node between two steps: its numbers are in range, and it may be put to work.
use mathlib.Core.Path.{◌≡◌, refl, sym, ap, subst, ◌∙◌, fun_ext}
use mathlib.Core.Logic.{◌≢◌}
use mathlib.Core.Bool.{Bool, true, false, cond}
use mathlib.Core.Option.{none, some}
use mathlib.Core.List.{List, ◌∷◌}
use Prim.Native.Nat.{ℕ, suc, ◌≤◌, ◌<◌}
use native.Mathlib.Omega.{arith}
use lib.Dec.{ltb, eqb}
use lib.ListN.{length}
use borrow.Author.Tests.{eqb-true, eqb-false, eq-eqb, ne_eqb}
use Rattle.method.specs.Network.{IsNode}
use Rattle.method.specs.Message.{Msg, len, last_len, item, sent_after}
use Rattle.method.specs.Rules.{started, to₁, to₃, rests, rule₃, turn}
use Rattle.method.specs.Work.{Site, heard, next, turn_at, work}
use Rattle.method.specs.Steps.{sents, put, handed}
use Rattle.method.specs.Invariant.{Waiting, SiteOk, Spread}
use Rattle.method.proofs.Again.{turn_held}
use Rattle.method.proofs.Working.{work_ok}
use Rattle.method.proofs.Steady.{work_keeps}
use Rattle.method.proofs.Always.{sources}
use Rattle.method.proofs.Sent.{ends_le}
use Rattle.method.proofs.Tight.{spread}
use Rattle.method.proofs.Enough.{work_rests}
use Rattle.network.specs.declared.Layout.{Layout}
use Rattle.network.specs.Layout.{net_of, Laid}
use Rattle.run_cells.specs.Part.{Part, entry_most, table_size, sent_most, sent_count, entry_count, site_of, state_of}
use Rattle.run_cells.specs.Stores.{Stored}
use Rattle.run_cells.specs.Caches.{Caches}
use Rattle.run_cells.proofs.Stored.{kept}
use Rattle.run_cells.proofs.Lists.{sent_length, table_length}
use Rattle.run_node.specs.Rules.{least}
use Rattle.run_node.specs.Working.{SentFits, Ready}
use Rattle.run_node.proofs.Limits.{few_entries, sent_fits, last_short}
use Rattle.run_node.proofs.Choice.{on_arc}
use Rattle.run.specs.Resting.{Resting}

-- one part has changed
pub put_state : (m n : ℕ → Part) (i : ℕ) → ((j : ℕ) → j ≢ i → n j ≡ m j) → (s : Site) → site_of (n i) ≡ s
    → state_of n ≡ put (state_of m) i s
put_state m n i there s e = fun_ext (λ j. go j (eqb j i) refl)
  where
    go : (j : ℕ) (b : Bool) → eqb j i ≡ b → site_of (n j) ≡ cond b s (site_of (m j))
    go j true q = ap (λ (k : ℕ). site_of (n k)) (eqb-true j i q) ∙ e
    go j false q = ap site_of (there j (eqb-false j i q))

module _ (g : Layout) (la : Laid g) (m : ℕ → Part) (re : Resting g m) where
  sent_fits_at : (j : ℕ) → IsNode g.nodes j → SentFits (state_of m j).node
  sent_fits_at j at = sent_fits (net_of g) la.accepted.sizes la.accepted.valid j at _ (state_of m j).node (re.inv j).site.ok
      (re.spread j)

  sent_most_lem : (j : ℕ) → IsNode g.nodes j → length (sents (state_of m) j) ≤ sent_most
  sent_most_lem j at = omega (arith, sent_fits_at j at, ends_le (state_of m j).node.phase)

  pub sent_low : (j : ℕ) → IsNode g.nodes j → m j sent_count ≤ sent_most
  sent_low j at = omega (arith, sent_most_lem j at, sent_length (m j) (m j sent_count))

  pub table_low : (j : ℕ) → IsNode g.nodes j → m j entry_count ≤ entry_most
  table_low j at =
      omega (
        arith,
        few_entries (net_of g) la.accepted.sizes la.accepted.valid j at _ (state_of m j).node (re.inv j).site.ok,
        table_length (m j) (m j entry_count),
      )

  module _ (i : ℕ) (at : IsNode g.nodes i) where
    pub i_node : (1 ≤ i) × (i < table_size)
    i_node = omega (arith, la.accepted.sizes.nodes.1)

    -- node i's part has become f, that of a site that works
    pub ready : (n : ℕ → Part) (f : Part) → Stored m i f n → (s : Site) → site_of f ≡ s → SiteOk (net_of g) i (sents (state_of m)) s
        → s.node.phase ≡ started
        → Spread (net_of g) i s.node → Caches g i (sents (state_of m)) f → Ready g (sents (state_of m)) n i
    ready n f st s is ok up spreads caches =
        let e : site_of (n i) ≡ s = ap site_of st.here ∙ is in
        let va = la.accepted.valid in
        let k = work_ok (net_of g) va i (sents (state_of m)) (λ j. (re.inv j).site.ok.good) s ok up in
        let told = sources (net_of g) va (Spread (net_of g)) (spread (net_of g) va) (state_of m) re.inv re.spread in
        let after = work_keeps (net_of g) va (Spread (net_of g)) (spread (net_of g) va) i (sents (state_of m))
        (λ j. (re.inv j).site.ok.good) told s ok up spreads in
        let fits = sent_fits (net_of g) la.accepted.sizes va i at _ (work (net_of g) i (sents (state_of m)) s).node k.ok.ok after in
        record {
          node = at;
          same = λ j ne. ap (λ (p : Part). (site_of p).node.sent) (st.there j ne);
          lists = λ j. (re.inv j).site.ok.good;
          fits =
              λ j aj. (
                sent_most_lem j aj,
                last_short (net_of g) la.accepted.sizes la.accepted.valid j aj _ (state_of m j).node (re.inv j).site.ok,
              );
          site = subst (λ (x : Site). SiteOk (net_of g) i (sents (state_of m)) x) (sym e) ok;
          room = subst (λ (x : Site). SentFits (work (net_of g) i (sents (state_of m)) x).node) (sym e) fits;
          up = ap (λ (x : Site). x.node.phase) e ∙ up;
          caches = subst (λ (p : Part). Caches g i (sents (state_of m)) p) (sym st.here) caches;
        }

    -- a message on an arc that node i does not wait for changes nothing else
    pub still : (site_of (m i)).node.phase ≡ started → (h : ℕ) → (least (m i) 16).head ≢ h
        → work (net_of g) i (sents (state_of m)) (handed (site_of (m i)) h) ≡ handed (site_of (m i)) h
    unfolding turn_at turn
    still up h other = work_rests (net_of g) i ss (handed s h) s.node (rested ((re.inv i).waits up))
      where
        ss : ℕ → List Msg
        ss = sents (state_of m)

        s : Site
        s = site_of (m i)

        rested : Waiting (net_of g) i (heard ss s) (next ss s) s.node → turn_at (net_of g) i ss to₁ (handed s h) ≡ rests s.node
        rested w =
            let rd : Ready g ss m i = ready m (m i) (kept m i) s refl (re.inv i).site up (re.spread i) (re.caches i i_node) in
            let p = w.choice in
            let head = (on_arc g la ss m i rd p (w.chosen, w.near)).least_head in
            let ne : p.head ≢ h = λ q. other (sym head ∙ q) in
            turn_held (net_of g) i (λ k. item (heard ss s k)) (next ss (handed s h)) (to₃ p) s.node (w.chosen, w.near)
            ∙ ap (rule₃ s.node p)
            (ap (λ (b : Bool). cond (ltb (s.taken p.head) (cond b (suc (s.delivered p.head)) (s.delivered p.head)))
            (some (sent_after (s.taken p.head) (ss p.head))) none) (ne_eqb p.head h ne)
            ∙ w.dry)
            ∙ ap (λ (b : Bool). rests
            (record {
              phase = s.node.phase;
              sent = cond b s.node.sent (len p.sum ∷ s.node.sent);
              table = s.node.table;
              lp = s.node.lp;
            }))
            (eq-eqb (last_len s.node.sent) p.sum w.sent)
