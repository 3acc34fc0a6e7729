-- Rules 3 and 4 on the chosen arc: what the code asks of the numbers is there, and what it makes of the part is the method's turn.
use mathlib.Core.Path.{◌≡◌, refl, sym, ap, subst, ◌∙◌}
use mathlib.Core.Logic.{◌≢◌}
use mathlib.Core.Bool.{Bool, true, false, cond, ◌||◌}
use mathlib.Core.Option.{Option, none, some}
use mathlib.Core.List.{List, [], ◌∷◌}
use Prim.Native.Nat.{ℕ, zero, suc, ◌+◌, ◌-◌, ◌≤◌, ◌<◌}
use native.Mathlib.Omega.{arith}
use lib.Dec.{ltb, leb, eqb}
use lib.ListN.{length}
use borrow.Author.Tests.{lt-ltb, le-ltb, leb-true, leb-false}
use Rattle.method.specs.Network.{Valid}
use Rattle.method.specs.Message.{Msg, label, len, last_len, item, send_len, oldest, sent_after}
use Rattle.method.specs.Rules.{Filled, Node, has, Choice, wait, fill, Go, to₁, to₃, Turn, rests, took, rule₃, rule₄, turn}
use Rattle.method.specs.Work.{Site, heard, next, turn_at, took_one, untaken, work}
use Rattle.method.specs.Entries.{find}
use Rattle.method.specs.Invariant.{SiteOk}
use Rattle.method.proofs.Again.{Held, turn_held}
use Rattle.method.proofs.Turns.{Took, Turned}
use Rattle.method.proofs.Oldest.{oldest_suc}
use Rattle.method.proofs.Working.{turn_at_ok, took_ok, took_held, took_less}
use Rattle.method.proofs.Enough.{work_rests, work_took}
use Rattle.network.specs.declared.Layout.{Layout}
use Rattle.network.specs.Layout.{net_of, Laid}
use Rattle.run_cells.specs.Part.{Part, table_size, label_most, sent_most, sent_count, entry_count, lp_at, last_at, delivered_at, taken_at}
use Rattle.run_cells.specs.Part.{sums_at, marks_at, no_sum, sent_from, msg_of, node_of, site_of, entry_marked}
use Rattle.run_cells.specs.Stores.{Rises, waited}
use Rattle.run_cells.specs.Caches.{Caches}
use Rattle.run_cells.proofs.Lists.{sent_length, table_length, sent_after_lem, sent_oldest, row_at}
use Rattle.run_cells.proofs.Stored.{waited_else, waited_head}
use Rattle.run_cells.proofs.MessageStores.{label_is, length_is, wait_site}
use Rattle.run_cells.proofs.Caching.{wait_caches}
use Rattle.run_node.specs.Rules.{next_of, Room, Able}
use Rattle.run_node.specs.Working.{SentFits, Ready, Did}
use Rattle.run_node.proofs.Least.{least_same}
use Rattle.run_node.proofs.Limits.{last_oldest, few_entries, i_node, fits_now, sent_low, table_low, lp_low}
use Rattle.run_node.proofs.Choice.{OnArc, on_arc}

-- a target has an entry exactly if one is found
not_found : (y : ℕ) (es : List Filled) → find y es ≡ none → has y es ≡ false
not_found y [] e = refl
not_found y (f ∷ es) e = go (not_found y es) (eqb y f.target) e
  where
    go : (find y es ≡ none → has y es ≡ false) → (b : Bool) → ◌≡◌ {A = Option Filled} (cond b (some f) (find y es)) none
        → b || has y es ≡ false
    go ih true q = let z : ◌≡◌ {A = ℕ} 0 1 = cc in absurd (omega arith)
    go ih false q = ih q

is_found : (y : ℕ) (es : List Filled) (x : Filled) → find y es ≡ some x → has y es ≡ true
is_found y [] x e = let z : ◌≡◌ {A = ℕ} 0 1 = cc in absurd (omega arith)
is_found y (f ∷ es) x e = go (is_found y es x) (eqb y f.target) e
  where
    go : (find y es ≡ some x → has y es ≡ true) → (b : Bool) → cond b (some f) (find y es) ≡ some x → b || has y es ≡ true
    go ih true q = refl
    go ih false q = ih q

send_longer : (s : List Msg) (x : ℕ) → length s ≤ length (send_len s x)
send_longer s x = go (eqb (last_len s) x)
  where
    go : (b : Bool) → length s ≤ length (cond b s (len x ∷ s))
    go true = omega arith
    go false = omega arith

module _ (g : Layout) (la : Laid g) (ss : ℕ → List Msg) (m : ℕ → Part) (i : ℕ) (rd : Ready g ss m i) where
  va : Valid (net_of g)
  va = la.accepted.valid

  -- a turn that has taken a message, from head h
  module _ (h : ℕ) (nd : Node) (go : Go) (turned : turn_at (net_of g) i ss to₁ (site_of (m i)) ≡ took h nd go) where
    pub took_record : Took (net_of g) i (heard ss (site_of (m i))) (next ss (site_of (m i))) (node_of (m i)) h nd go
    took_record =
        subst (λ (t : Turn). Turned (net_of g) i (heard ss (site_of (m i))) (next ss (site_of (m i))) (node_of (m i)) t) turned
        (turn_at_ok (net_of g) va i ss rd.lists (site_of (m i)) rd.site rd.up to₁ tt)

    -- what it has sent then fits too
    pub took_fits : length nd.sent < sent_most
    took_fits =
        let w = took_record in
        let s' = took_one (site_of (m i)) h nd in
        let held = took_held (net_of g) va i ss rd.lists (site_of (m i)) rd.site h nd go w in
        let same = work_took (net_of g) i ss (site_of (m i)) h nd go turned held in
        fits_now g la ss m i rd s' (took_ok (net_of g) va i ss rd.lists (site_of (m i)) rd.site h nd go w) w.up
        (subst (λ (s : Site). SentFits s.node) same rd.room)

    pub goes_on : (n : ℕ → Part) → site_of (n i) ≡ took_one (site_of (m i)) h nd → Caches g i ss (n i) → ((j : ℕ) → j ≢ i → n j ≡ m j)
        → Ready g ss n i × Held (net_of g) i (λ k. item (heard ss (site_of (n i)) k)) go (node_of (n i))
        × (work (net_of g) i ss (site_of (n i)) ≡ work (net_of g) i ss (site_of (m i)))
        × (untaken (net_of g).arcs (site_of (n i)) < untaken (net_of g).arcs (site_of (m i)))
    goes_on n is caches there =
        let w = took_record in
        let s' = took_one (site_of (m i)) h nd in
        let held : Held (net_of g) i (λ k. item (heard ss s' k)) go nd =
        took_held (net_of g) va i ss rd.lists (site_of (m i)) rd.site h nd go w in
        let same_work : work (net_of g) i ss (site_of (n i)) ≡ work (net_of g) i ss (site_of (m i)) =
        ap (work (net_of g) i ss) is ∙ sym (work_took (net_of g) i ss (site_of (m i)) h nd go turned held) in (
          record {
            node = rd.node;
            same = λ j ne. ap (λ (f : Part). (node_of f).sent) (there j ne) ∙ rd.same j ne;
            lists = rd.lists;
            fits = rd.fits;
            room = subst (λ (s : Site). SentFits s.node) (sym same_work) rd.room;
            site = subst (λ (s : Site). SiteOk (net_of g) i ss s) (sym is)
                (took_ok (net_of g) va i ss rd.lists (site_of (m i)) rd.site h nd go w);
            up = ap (λ (s : Site). s.node.phase) is ∙ w.up;
            caches = caches;
          },
          subst (λ (s : Site). Held (net_of g) i (λ k. item (heard ss s k)) go s.node) (sym is) held,
          same_work,
          subst (λ (s : Site). untaken (net_of g).arcs s < untaken (net_of g).arcs (site_of (m i))) (sym is)
              (took_less (net_of g) va i ss rd.lists (site_of (m i)) rd.site h nd go w),
        )

  module _ (x h : ℕ)
      (held : Held (net_of g) i (λ k. item (heard ss (site_of (m i)) k)) (to₃ (record { sum = x; head = h })) (node_of (m i))) where
    abbrev p : Choice
    p = record { sum = x; head = h }

    pub on : OnArc g la ss m i rd p
    on = on_arc g la ss m i rd p held

    pub h_low : h < table_size
    h_low = omega (arith, on.node, la.accepted.sizes.nodes.1)

    turn_is : turn_at (net_of g) i ss to₁ (site_of (m i)) ≡ rule₃ (node_of (m i)) p (next ss (site_of (m i)) h)
    unfolding turn_at turn
    turn_is = turn_held (net_of g) i (λ k. item (heard ss (site_of (m i)) k)) (next ss (site_of (m i))) (to₃ p) (node_of (m i)) held

    next_is : (b : Bool) → ltb (m i (taken_at + h)) (m i (delivered_at + h)) ≡ b
        → next ss (site_of (m i)) h ≡ cond b (some (sent_after (m i (taken_at + h)) (ss h))) none
    next_is b e = rw (row_at (m i) taken_at h h_low, row_at (m i) delivered_at h h_low, e)

    theirs : (length (ss h) ≡ m h sent_count) × (m i (delivered_at + h) ≤ m h sent_count) × (m h sent_count ≤ sent_most)
    theirs =
        let e : length (ss h) ≡ m h sent_count = sym (ap length (rd.same h on.other)) ∙ sent_length (m h) (m h sent_count) in
        (e, omega (arith, rd.site.delivered_le h, row_at (m i) delivered_at h h_low), omega (arith, (rd.fits h on.node).0))

    -- the last length sent is not above the sum, nor far below it
    pub last_le : m i last_at ≤ x
    last_le = omega (arith, rd.caches.last, on.floor)

    rises : Rises (m i) x
    rises =
        let sp : m i lp_at ≤ last_len (node_of (m i)).sent = rd.site.ok.spoken in
        record {
          least = last_le;
          most = omega (arith, held.1, la.accepted.sizes.lengths.1, rd.caches.last);
          short = omega (arith, held.1, lp_low g la ss m i rd);
        }

    -- nothing further: the node waits
    pub waits_there : (n : ℕ → Part) → n i ≡ waited (m i) x h → m i (delivered_at + h) ≤ m i (taken_at + h) → Did g ss i (m i) (n i)
    waits_there n e le = subst (λ (f : Part). Did g ss i (m i) f) (sym e) done
      where
        rested : turn_at (net_of g) i ss to₁ (site_of (m i)) ≡ rests (wait (node_of (m i)) x)
        rested = turn_is ∙ ap (rule₃ (node_of (m i)) p) (next_is false (le-ltb (m i (taken_at + h)) (m i (delivered_at + h)) le))

        sums : (k : ℕ) → k ≤ 16 → waited (m i) x h (sums_at + k) ≡ m i (sums_at + k)
        sums k l = waited_else (m i) x h (sums_at + k) (omega arith) (omega arith) (omega arith) (omega arith)

        done : Did g ss i (m i) (waited (m i) x h)
        done =
            record {
              site = wait_site (m i) x h (table_low g la ss m i rd) rd.caches.last last_le
                  ∙ sym (work_rests (net_of g) i ss (site_of (m i)) (wait (node_of (m i)) x) rested);
              caches = wait_caches g i ss (m i) x h (table_low g la ss m i rd) last_le rd.caches;
              waits = λ up. waited_head (m i) x h ∙ on.least_head
                  ∙ sym (ap (λ (c : Choice). c.head) (least_same (m i) (waited (m i) x h) 16 sums));
            }

    -- a further message, the number w
    module _ (lt : m i (taken_at + h) < m i (delivered_at + h)) where
      abbrev w : ℕ
      w = next_of m i h

      pub inside : m i (taken_at + h) < length (ss h)
      inside = omega (arith, theirs)

      -- the messages taken from the arc
      abbrev so_far : List Msg
      so_far = heard ss (site_of (m i)) h

      taken_is : so_far ≡ sent_from (m h) (m i (taken_at + h))
      taken_is =
          ap (λ (t : ℕ). oldest t (ss h)) (row_at (m i) taken_at h h_low) ∙ ap (oldest (m i (taken_at + h))) (sym (rd.same h on.other))
          ∙ sent_oldest (m h) (m h sent_count) (m i (taken_at + h)) (omega (arith, theirs))

      pub msg_is : sent_after (m i (taken_at + h)) (ss h) ≡ msg_of so_far w
      msg_is =
          ap (sent_after (m i (taken_at + h))) (sym (rd.same h on.other))
          ∙ sent_after_lem (m h) (m h sent_count) (m i (taken_at + h)) (omega (arith, theirs))
          ∙ ap (λ (r : List Msg). msg_of r w) (sym taken_is)

      pub takes_msg : (a : Msg) → msg_of so_far w ≡ a → turn_at (net_of g) i ss to₁ (site_of (m i)) ≡ rule₄ (node_of (m i)) p a
      takes_msg a e =
          turn_is ∙ ap (rule₃ (node_of (m i)) p) (next_is true (lt-ltb (m i (taken_at + h)) (m i (delivered_at + h)) lt))
          ∙ ap (rule₄ (node_of (m i)) p) (msg_is ∙ e)

      -- a length is no longer than the last
      sum_fits : x + (w - label_most) ≤ no_sum
      sum_fits = go (leb w label_most) refl
        where
          go : (b : Bool) → leb w label_most ≡ b → x + (w - label_most) ≤ no_sum
          go true e = omega (arith, leb-true w label_most e, rises.short)
          go false e =
              let v : sent_after (m i (taken_at + h)) (ss h) ≡ len (last_len so_far + (w - label_most)) =
              msg_is ∙ length_is so_far w (leb-false w label_most e) in
              let q : last_len (oldest (suc (m i (taken_at + h))) (ss h)) ≡ last_len so_far + (w - label_most) =
              ap last_len (oldest_suc (m i (taken_at + h)) (ss h) inside)
              ∙ ap (λ (a : Msg). last_len (a ∷ oldest (m i (taken_at + h)) (ss h))) v in
              omega (
                arith,
                on.len,
                on.sum,
                q,
                last_oldest (net_of g).arcs h (suc (m i (taken_at + h))) (ss h) (rd.lists h),
                (rd.fits h on.node).1,
              )

      has_none : w ≤ label_most → m i (marks_at + w) ≡ 0 → has w (node_of (m i)).table ≡ false
      has_none le z = not_found w (node_of (m i)).table ((rd.caches.marks w (omega arith)).1 ∙ ap (entry_marked (m i)) z)

      pub has_one : w ≤ label_most → (k : ℕ) → m i (marks_at + w) ≡ k → k ≢ 0 → has w (node_of (m i)).table ≡ true
      has_one le zero z ne = absurd (ne refl)
      has_one le (suc k) z ne = is_found w (node_of (m i)).table _ ((rd.caches.marks w (omega arith)).1 ∙ ap (entry_marked (m i)) z)

      pub new_label : 1 ≤ w → w ≤ label_most → m i (marks_at + w) ≡ 0
          → turn_at (net_of g) i ss to₁ (site_of (m i)) ≡ took h (fill (node_of (m i)) p w) (to₃ p)
      new_label pos le z =
          takes_msg (label w) (label_is so_far w pos le)
          ∙ ap (λ (b : Bool). took h (cond b (node_of (m i)) (fill (node_of (m i)) p w)) (to₃ p)) (has_none le z)

      pub room : Room (m i) w
      room pos le z =
          let k = took_record h (fill (node_of (m i)) p w) (to₃ p) (new_label pos le z) in
          let a = took_fits h (fill (node_of (m i)) p w) (to₃ p) (new_label pos le z) in
          let b = few_entries (net_of g) la.accepted.sizes va i rd.node _ (fill (node_of (m i)) p w) k.ok in
          let n = node_of (m i) in
          omega (arith, a, b, send_longer n.sent x, sent_length (m i) (m i sent_count), table_length (m i) (m i entry_count))

    pub able : Able m i h x
    able = record {
      own = i_node g la ss m i rd;
      head = omega (arith, on.node, la.accepted.sizes.nodes.1);
      rises = rises;
      sent = sent_low g la ss m i rd;
      within = λ lt. omega (arith, theirs);
      sum = sum_fits;
      room = room;
    }
