-- What taking from the chosen arc gives: the work is done, or it goes on from the part as it has become.
use mathlib.Core.Path.{◌≡◌, refl, sym, ap, subst, ◌∙◌}
use mathlib.Core.Logic.{◌≢◌}
use mathlib.Core.Bool.{Bool, true, false, cond}
use mathlib.Core.List.{List, ◌∷◌}
use Prim.Native.Nat.{ℕ, ◌+◌, ◌-◌, ◌≤◌, ◌<◌}
use native.Mathlib.Omega.{arith}
use lib.Dec.{leb, eqb}
use lib.ListN.{length}
use borrow.Author.Tests.{leb-true, leb-false, eqb-true, eqb-false, ne_eqb}
use Rattle.method.specs.Message.{Msg, label, len, end, last_len, item, sent_after}
use Rattle.method.specs.Rules.{Choice, fill, Go, to₁, to₃, took}
use Rattle.method.specs.Work.{Site, heard, turn_at, became, took_one, untaken, work}
use Rattle.method.proofs.Again.{Held}
use Rattle.network.specs.declared.Layout.{Layout}
use Rattle.network.specs.Layout.{len_at, net_of, Laid}
use Rattle.run_cells.specs.Part.{Part, entry_most, table_size, label_most, entry_count, last_at, delivered_at, taken_at, sums_at}
use Rattle.run_cells.specs.Part.{marks_at, no_sum}
use Rattle.run_cells.specs.Part.{sum_of}
use Rattle.run_cells.specs.Part.{msg_of, row, node_of, site_of}
use Rattle.run_cells.specs.Stores.{upd, Stored, raised, waited, filled}
use Rattle.run_cells.specs.Caches.{Caches}
use Rattle.run_cells.proofs.Lists.{row_at}
use Rattle.run_cells.proofs.Meaning.{hit, skip, counted_else, taken_site, sum_site}
use Rattle.run_cells.proofs.MessageStores.{label_is, length_is}
use Rattle.run_cells.proofs.EntryStores.{fill_site}
use Rattle.run_cells.proofs.Caching.{fill_caches, took_caches}
use Rattle.run_node.specs.declared.Heard.{Heard}
use Rattle.run_node.specs.declared.Heard.TheVariants.{Nothing, Label, Length}
use Rattle.run_node.specs.Rules.{hears, heard_of, next_of, takes, took_of}
use Rattle.run_node.specs.Working.{Ready, Did}
use Rattle.run_node.proofs.Limits.{table_low}
use Rattle.run_node.proofs.Taking.{goes_on, on, h_low, waits_there, inside, msg_is, takes_msg, has_one, new_label, room, last_le}

-- the work goes on, from rule 1 or rule 3
abbrev pub GoesOn : Layout → (ℕ → List Msg) → ℕ → (ℕ → Part) → (ℕ → Part) → Go → Type 0
GoesOn g ss i m n go =
    Ready g ss n i × Held (net_of g) i (λ k. item (heard ss (site_of (n i)) k)) go (node_of (n i))
    × (work (net_of g) i ss (site_of (n i)) ≡ work (net_of g) i ss (site_of (m i)))
    × (untaken (net_of g).arcs (site_of (n i)) < untaken (net_of g).arcs (site_of (m i)))

-- what the code's answer says of the work
abbrev pub Went : Layout → (ℕ → List Msg) → ℕ → Choice → (ℕ → Part) → (ℕ → Part) → Heard → Type 0
Went g ss i p m n Nothing = Did g ss i (m i) (n i)
Went g ss i p m n Label = GoesOn g ss i m n (to₃ p)
Went g ss i p m n Length = GoesOn g ss i m n to₁

module _ (g : Layout) (la : Laid g) (ss : ℕ → List Msg) (m n : ℕ → Part) (i : ℕ) (rd : Ready g ss m i) (x h : ℕ)
    (held : Held (net_of g) i (λ k. item (heard ss (site_of (m i)) k)) (to₃ (record { sum = x; head = h })) (node_of (m i))) where
  abbrev p : Choice
  p = record { sum = x; head = h }

  abbrev f : Part
  f = m i

  abbrev c : Part
  c = raised (m i) (taken_at + h)

  low : h < table_size
  low = h_low g la ss m i rd x h held

  few : f entry_count ≤ entry_most
  few = table_low g la ss m i rd

  abbrev w : ℕ
  w = next_of m i h

  kept : (o : ℕ) → o ≢ taken_at + h → c o ≡ f o
  kept o ne = counted_else f (taken_at + h) o ne

  module _ (there : (j : ℕ) → j ≢ i → n j ≡ m j) (lt : m i (taken_at + h) < m i (delivered_at + h)) where
    abbrev so_far : List Msg
    so_far = heard ss (site_of f) h

    msg_row : sent_after (row f taken_at h) (ss h) ≡ msg_of so_far w
    msg_row = ap (λ (k : ℕ). sent_after k (ss h)) (row_at f taken_at h low) ∙ msg_is g la ss m i rd x h held lt

    inside_row : row f taken_at h < length (ss h)
    inside_row = omega (arith, row_at f taken_at h low, inside g la ss m i rd x h held lt)

    -- a length or the end: its arc has the sum v
    new_sum : (v : ℕ) (a : Msg) → msg_of so_far w ≡ a → v ≡ sum_of (len_at g i h) (item (a ∷ heard ss (site_of f) h))
        → turn_at (net_of g) i ss to₁ (site_of f) ≡ took h (node_of f) to₁ → n i ≡ upd c (sums_at + h) v → GoesOn g ss i m n to₁
    new_sum v a ea ev turned e =
        goes_on g la ss m i rd h (node_of f) to₁ turned n (ap site_of e ∙ site)
        (subst (λ (f' : Part). Caches g i ss f') (sym e) caches) there
      where
        site : site_of (upd c (sums_at + h) v) ≡ took_one (site_of f) h (node_of f)
        site = sum_site c h v low ∙ taken_site f h low

        same : (q : ℕ) → q ≢ sums_at + h → q ≢ taken_at + h → upd c (sums_at + h) v q ≡ f q
        same q n40 n23 = skip c (sums_at + h) v q n40 ∙ kept q n23

        caches : Caches g i ss (upd c (sums_at + h) v)
        caches =
            took_caches g i ss f (upd c (sums_at + h) v) h low few rd.caches inside_row site
            (same entry_count (omega arith) (omega arith)) (same last_at (omega arith) (omega arith))
            (λ q lo hi ne. same q ne (omega (arith, low)))
            (hit c (sums_at + h) v ∙ ev ∙ ap (λ (b : Msg). sum_of (len_at g i h) (item (b ∷ heard ss (site_of f) h))) (sym (msg_row ∙ ea)))

    -- a label
    module _ (pos : 1 ≤ w) (le : w ≤ label_most) where
      c_caches : Caches g i ss c
      c_caches =
          took_caches g i ss f c h low few rd.caches inside_row (taken_site f h low) (kept entry_count (omega arith))
          (kept last_at (omega arith))
          (λ q lo hi ne. kept q (omega (arith, low)))
          (kept (sums_at + h) (omega arith) ∙ rd.caches.sums h low
          ∙ ap (λ (b : Msg). sum_of (len_at g i h) (item (b ∷ heard ss (site_of f) h))) (sym (msg_row ∙ label_is so_far w pos le)))

      known_label : c (marks_at + w) ≢ 0 → n i ≡ c → GoesOn g ss i m n (to₃ p)
      known_label ne e =
          goes_on g la ss m i rd h (node_of f) (to₃ p) turned n (ap site_of e ∙ taken_site f h low)
          (subst (λ (f' : Part). Caches g i ss f') (sym e) c_caches) there
        where
          turned : turn_at (net_of g) i ss to₁ (site_of f) ≡ took h (node_of f) (to₃ p)
          turned =
              takes_msg g la ss m i rd x h held lt (label w) (label_is so_far w pos le)
              ∙ ap (λ (b : Bool). took h (cond b (node_of f) (fill (node_of f) p w)) (to₃ p))
              (has_one g la ss m i rd x h held lt le (f (marks_at + w)) refl (λ z. ne (kept (marks_at + w) (omega (arith, low)) ∙ z)))

      unknown_label : c (marks_at + w) ≡ 0 → n i ≡ filled c h x w → GoesOn g ss i m n (to₃ p)
      unknown_label z e =
          goes_on g la ss m i rd h (fill (node_of f) p w) (to₃ p) (new_label g la ss m i rd x h held lt pos le zero) n (ap site_of e ∙ site)
          (subst (λ (f' : Part). Caches g i ss f') (sym e) (fill_caches g i ss c h x w fits le up c_caches)) there
        where
          zero : f (marks_at + w) ≡ 0
          zero = sym (kept (marks_at + w) (omega (arith, low))) ∙ z

          up : c last_at ≤ x
          up = omega (arith, kept last_at (omega arith), last_le g la ss m i rd x h held)

          fits : c entry_count < entry_most
          fits = omega (arith, kept entry_count (omega arith), (room g la ss m i rd x h held lt pos le zero).1)

          site : site_of (filled c h x w) ≡ took_one (site_of f) h (fill (node_of f) p w)
          site = fill_site c h x w fits pos le c_caches.last up ∙ ap (λ (s : Site). became s (fill s.node p w)) (taken_site f h low)

    went : n i ≡ hears c h x w → Went g ss i p m n (heard_of w)
    unfolding hears
    went e = go (eqb w 0) refl (leb w label_most) refl e
      where
        far : len_at g i h ≢ 255
        far q = omega (arith, (on g la ss m i rd x h held).len)

        label_went : w ≢ 0 → w ≤ label_most → (b : Bool) → eqb (c (marks_at + w)) 0 ≡ b → n i ≡ cond b (filled c h x w) c
            → GoesOn g ss i m n (to₃ p)
        label_went ne le true eb q = unknown_label (omega arith) le (eqb-true (c (marks_at + w)) 0 eb) q
        label_went ne le false eb q = known_label (omega arith) le (eqb-false (c (marks_at + w)) 0 eb) q

        go : (a : Bool) → eqb w 0 ≡ a → (b : Bool) → leb w label_most ≡ b
            → n i ≡ cond a (upd c (sums_at + h) no_sum)
            (cond b (cond (eqb (c (marks_at + w)) 0) (filled c h x w) c) (upd c (sums_at + h) (x + (w - label_most))))
            → Went g ss i p m n (cond a Length (cond b Label Length))
        go true ea b eb q =
            let is : msg_of so_far w ≡ end = ap (msg_of so_far) (eqb-true w 0 ea) in
            new_sum no_sum end is (rw (ne_eqb (len_at g i h) 255 far)) (takes_msg g la ss m i rd x h held lt end is) q
        go false ea true eb q = label_went (eqb-false w 0 ea) (leb-true w label_most eb) (eqb (c (marks_at + w)) 0) refl q
        go false ea false eb q =
            let v = last_len so_far + (w - label_most) in
            let is : msg_of so_far w ≡ len v = length_is so_far w (leb-false w label_most eb) in
            let sum : x + (w - label_most) ≡ len_at g i h + v = omega (arith, (on g la ss m i rd x h held).sum) in
            new_sum (x + (w - label_most)) (len v) is (rw (ne_eqb (len_at g i h) 255 far) sum)
            (takes_msg g la ss m i rd x h held lt (len v) is) q

  pub takes_went : Stored m i (takes m i h x) n → Went g ss i p m n (took_of m i h)
  unfolding takes
  takes_went st = go (leb (m i (delivered_at + h)) (m i (taken_at + h))) refl st.here
    where
      go : (b : Bool) → leb (m i (delivered_at + h)) (m i (taken_at + h)) ≡ b → n i ≡ cond b (waited f x h) (hears c h x w)
          → Went g ss i p m n (cond b Nothing (heard_of w))
      go true eb q = waits_there g la ss m i rd x h held n q (leb-true (m i (delivered_at + h)) (m i (taken_at + h)) eb)
      go false eb q = went st.there (leb-false (m i (delivered_at + h)) (m i (taken_at + h)) eb) q
