-- The numbers of a node at work are in range.
use mathlib.Core.Path.{◌≡◌, sym, ap, subst}
use mathlib.Core.List.{List, [], ◌∷◌, ◌++◌}
use Prim.Native.Nat.{ℕ, ◌+◌, ◌-◌, ◌*◌, ◌≤◌, ◌<◌}
use native.Mathlib.Nat.{le_refl, mul-le-mul}
use native.Mathlib.Omega.{arith}
use lib.ListN.{length, drop, take-append-drop}
use Rattle.method.specs.Network.{Arc, Net, IsNode, Valid, Sizes}
use Rattle.method.specs.Message.{Msg, label, len, end, finite, last_len, item, oldest}
use Rattle.method.specs.Rules.{unstarted, started, Node}
use Rattle.method.specs.Work.{Site, heard, work}
use Rattle.method.specs.Invariant.{ends, Good, ends_sent, Ok, SiteOk, Spread}
use Rattle.method.proofs.Sent.{item_last_len}
use Rattle.method.proofs.View.{started_unstarted}
use Rattle.method.proofs.Bounded.{table_few}
use Rattle.method.proofs.Working.{work_ok}
use Rattle.method.proofs.Tight.{at_most_243, sent_within, within_before}
use Rattle.network.specs.declared.Layout.{Layout}
use Rattle.network.specs.Layout.{net_of, Laid}
use Rattle.run_cells.specs.Part.{Part, entry_most, table_size, sent_most, sent_count, entry_count, lp_at, node_of, site_of}
use Rattle.run_cells.proofs.Lists.{sent_length, table_length}
use Rattle.run_node.specs.Working.{SentFits, Ready}

-- lengths rise along a sent list
last_more : (ar : List Arc) (j : ℕ) (e s : List Msg) → Good ar j (e ++ s) → last_len s ≤ last_len (e ++ s)
last_more ar j [] s g = le_refl (last_len s)
last_more ar j (label y ∷ e) s g = last_more ar j e s g.0
last_more ar j (len x ∷ e) s g = omega (arith, last_more ar j e s g.0, g.1)
last_more ar j (end ∷ e) s g = last_more ar j e s g.0

pub last_oldest : (ar : List Arc) (j t : ℕ) (s : List Msg) → Good ar j s → last_len (oldest t s) ≤ last_len s
unfolding oldest
last_oldest ar j t s g =
    let e = take-append-drop (length s - t) s in
    subst (λ (r : List Msg). last_len (drop (length s - t) s) ≤ last_len r) e
    (last_more ar j (lib.ListN.take (length s - t) s) (drop (length s - t) s) (subst (λ (r : List Msg). Good ar j r) (sym e) g))

-- a node of a house of 16 and LMAX 15
module _ (net : Net) (small : Sizes net) (va : Valid net) (i : ℕ) (at : IsNode net.n i) (T : ℕ → List Msg) (nd : Node)
    (ok : Ok net i T nd) where
  pub few_entries : length nd.table ≤ 16
  few_entries = omega (arith, table_few net va i at T nd ok, small.nodes.1)

  -- law l, for a node that holds its premise
  pub sent_fits : Spread net i nd → SentFits nd
  sent_fits spread = omega (arith, sent_within net va i nd spread at T ok, at_most_243 net small)

  -- tables, LP and lengths
  product : length nd.table * net.lmax ≤ 16 * 15
  product = mul-le-mul few_entries small.lengths.1

  pub near : (nd.phase ≡ unstarted → ⊥) → nd.lp + net.lmax ≤ 240
  near up = omega (arith, product, ok.reach up)

  pub last_short : last_len nd.sent ≤ 240
  last_short = omega (arith, product, ok.far)

module _ (g : Layout) (la : Laid g) (ss : ℕ → List Msg) (m : ℕ → Part) (i : ℕ) (rd : Ready g ss m i) where
  pub i_low : i < table_size
  i_low = omega (arith, rd.node, la.accepted.sizes.nodes.1)

  pub i_node : (1 ≤ i) × (i < table_size)
  i_node = omega (arith, rd.node, la.accepted.sizes.nodes.1)

  -- what a site of node i has sent fits, where what it will have sent does
  pub fits_now : (s : Site) → SiteOk (net_of g) i ss s → s.node.phase ≡ started → SentFits (work (net_of g) i ss s).node
      → length s.node.sent < sent_most
  fits_now s ok up fits =
      let w = work_ok (net_of g) la.accepted.valid i ss rd.lists s ok up in
      let more = w.later.node.more_sent in
      let r = (work (net_of g) i ss s).node in
      let lt : length r.sent < sent_most + ends r.sent = omega (arith, fits, w.ok.ok.ended) in
      let was = within_before sent_most more.0 s.node.sent (subst (λ (x : List Msg). length x < sent_most + ends x) more.1 lt) in
      omega (arith, was, ok.ok.ended, ap ends_sent up)

  pub sent_low : m i sent_count < sent_most
  sent_low = omega (arith, fits_now (site_of (m i)) rd.site rd.up rd.room, sent_length (m i) (m i sent_count))

  pub table_low : m i entry_count ≤ entry_most
  table_low =
      omega (
        arith,
        few_entries (net_of g) la.accepted.sizes la.accepted.valid i rd.node (heard ss (site_of (m i)))
            (node_of (m i)) rd.site.ok,
        table_length (m i) (m i entry_count),
      )

  pub lp_low : m i lp_at + (net_of g).lmax ≤ 240
  lp_low = near (net_of g) la.accepted.sizes la.accepted.valid i rd.node (heard ss (site_of (m i))) (node_of (m i)) rd.site.ok
      (λ e. started_unstarted (node_of (m i)).phase rd.up e)

  -- an arc's item
  pub item_low : (h v : ℕ) → IsNode (net_of g).n h → item (heard ss (site_of (m i)) h) ≡ finite v → v ≤ 240
  item_low h v at e =
      omega (
        arith,
        item_last_len (heard ss (site_of (m i)) h) v e,
        last_oldest (net_of g).arcs h ((site_of (m i)).taken h) (ss h)
            (rd.lists h),
        (rd.fits h at).1,
      )
