-- What it means to store an entry: to fill one from a label, and to begin with the node's own.
use mathlib.Core.Path.{◌≡◌, refl, ap, ◌∙◌}
use mathlib.Core.Logic.{◌≢◌}
use mathlib.Core.List.{◌∷◌}
use Prim.Native.Nat.{ℕ, ◌+◌, ◌≤◌, ◌<◌}
use native.Mathlib.Omega.{arith}
use native.Mathlib.Numerals.{add-one}
use borrow.Author.Tests.{ne_eqb}
use Rattle.method.specs.Message.{Msg}
use Rattle.method.specs.Rules.{started, wait, fill}
use Rattle.method.specs.Work.{Site, became, begun}
use Rattle.run_cells.specs.Part.{Part, entry_most, table_size, label_most, phase_at, sent_count, entry_count, lp_at, last_at}
use Rattle.run_cells.specs.Part.{delivered_at, taken_at, marks_at, targets_at, distances_at, hops_at, messages_at, msg_of, entry_at}
use Rattle.run_cells.specs.Part.{phase_named, node_of, site_of}
use Rattle.run_cells.specs.Stores.{upd, pushed, length_sent, noted, filled, begun_part}
use Rattle.run_cells.specs.Caches.{Last}
use Rattle.run_cells.proofs.Stored.{pushed_else, sent_else}
use Rattle.run_cells.proofs.Meaning.{hit, skip, sent_same, table_same, row_same, site, sites, phase_site}
use Rattle.run_cells.proofs.MessageStores.{label_is, saying, push_site, length_site}

-- an entry more

pub noted_else : (f : Part) (y x h o : ℕ) → o ≢ lp_at → o ≢ entry_count → o ≢ marks_at + y → o ≢ hops_at + f entry_count
    → o ≢ distances_at + f entry_count → o ≢ targets_at + f entry_count → noted f y x h o ≡ f o
unfolding noted
noted_else f y x h o a b m c d e =
    rw (
      ne_eqb o lp_at a,
      ne_eqb o entry_count b,
      ne_eqb o (marks_at + y) m,
      ne_eqb o (hops_at + f entry_count) c,
      ne_eqb o (distances_at + f entry_count) d,
      ne_eqb o (targets_at + f entry_count) e,
    )

module _ (f : Part) (y x h : ℕ) (few : f entry_count < entry_most) (node : y < table_size) where
  pub noted_kept : (o : ℕ) → o < marks_at → o ≢ lp_at → o ≢ entry_count → noted f y x h o ≡ f o
  noted_kept o lt a b = noted_else f y x h o a b (omega arith) (omega arith) (omega arith) (omega arith)

  pub noted_old : (q : ℕ) → q < f entry_count → entry_at (noted f y x h) q ≡ entry_at f q
  noted_old q lt =
      rw (
        noted_else f y x h (targets_at + q) (omega arith) (omega arith) (omega arith) (omega arith) (omega arith) (omega arith),
        noted_else f y x h (distances_at + q) (omega arith) (omega arith) (omega arith) (omega arith) (omega arith) (omega arith),
        noted_else f y x h (hops_at + q) (omega arith) (omega arith) (omega arith) (omega arith) (omega arith) (omega arith),
      )

  pub noted_new : entry_at (noted f y x h) (f entry_count) ≡ record { target = y; distance = x; hop = h }
  unfolding noted
  noted_new =
      let f₁ = upd f (targets_at + f entry_count) y in
      let f₂ = upd f₁ (distances_at + f entry_count) x in
      let f₃ = upd f₂ (hops_at + f entry_count) h in
      let f₄ = upd f₃ (marks_at + y) (f entry_count + 1) in
      let f₅ = upd f₄ entry_count (f entry_count + 1) in
      let off : (o : ℕ) → targets_at ≤ o → upd f₅ lp_at x o ≡ f₃ o = λ o lt. skip f₅ lp_at x o (omega arith)
      ∙ skip f₄ entry_count (f entry_count + 1) o (omega arith) ∙ skip f₃ (marks_at + y) (f entry_count + 1) o (omega arith) in
      rw (
        off (targets_at + f entry_count) (omega arith) ∙ skip f₂ (hops_at + f entry_count) h (targets_at + f entry_count) (omega arith)
            ∙ skip f₁ (distances_at + f entry_count) x (targets_at + f entry_count) (omega arith) ∙ hit f (targets_at + f entry_count) y,
        off (distances_at + f entry_count) (omega arith) ∙ skip f₂ (hops_at + f entry_count) h (distances_at + f entry_count) (omega arith)
            ∙ hit f₁ (distances_at + f entry_count) x,
        off (hops_at + f entry_count) (omega arith) ∙ hit f₂ (hops_at + f entry_count) h,
      )

  pub noted_count : noted f y x h entry_count ≡ f entry_count + 1
  unfolding noted
  noted_count = refl

  pub noted_mark : noted f y x h (marks_at + y) ≡ f entry_count + 1
  unfolding noted
  noted_mark =
      let f₃ = upd (upd (upd f (targets_at + f entry_count) y) (distances_at + f entry_count) x) (hops_at + f entry_count) h in
      let f₄ = upd f₃ (marks_at + y) (f entry_count + 1) in
      skip (upd f₄ entry_count (f entry_count + 1)) lp_at x (marks_at + y) (omega arith)
      ∙ skip f₄ entry_count (f entry_count + 1) (marks_at + y) (omega arith) ∙ hit f₃ (marks_at + y) (f entry_count + 1)

  pub noted_sent : (node_of (noted f y x h)).sent ≡ (node_of f).sent
  noted_sent =
      rw (noted_kept sent_count (omega arith) (omega arith) (omega arith))
      (sent_same f (noted f y x h) (f sent_count)
      (λ q lt. noted_else f y x h (messages_at + q) (omega arith) (omega arith) (omega arith) (omega arith) (omega arith) (omega arith)))

  noted_lp : noted f y x h lp_at ≡ x
  unfolding noted
  noted_lp = refl

  pub noted_table : (node_of (noted f y x h)).table ≡ record { target = y; distance = x; hop = h } ∷ (node_of f).table
  noted_table = rw (noted_count, add-one (f entry_count), noted_new, table_same f (noted f y x h) (f entry_count) noted_old)

  pub note_site : site_of (noted f y x h)
      ≡ became (site_of f) (record {
        phase = (node_of f).phase;
        sent = (node_of f).sent;
        table = record { target = y; distance = x; hop = h } ∷ (node_of f).table;
        lp = x;
      })
  note_site =
      sites (ap phase_named (noted_kept phase_at (omega arith) (omega arith) (omega arith))) noted_sent noted_table noted_lp
      (row_same f (noted f y x h) delivered_at (λ k lt. noted_kept (delivered_at + k) (omega arith) (omega arith) (omega arith)))
      (row_same f (noted f y x h) taken_at (λ k lt. noted_kept (taken_at + k) (omega arith) (omega arith) (omega arith)))

abbrev entering : ℕ → ℕ → ℕ → Site → Site
entering y x h s =
    became s (record {
      phase = s.node.phase;
      sent = s.node.sent;
      table = record { target = y; distance = x; hop = h } ∷ s.node.table;
      lp = x;
    })

pub fill_site : (f : Part) (h x y : ℕ) → f entry_count < entry_most → 1 ≤ y → y ≤ label_most → Last f → f last_at ≤ x
    → site_of (filled f h x y) ≡ became (site_of f) (fill (node_of f) (record { sum = x; head = h }) y)
unfolding filled
fill_site f h x y few pos le last up =
    let g = length_sent f x in
    let few₁ : g entry_count < entry_most = omega (arith, sent_else f x entry_count (omega arith) (omega arith) (omega arith)) in
    let few₂ : pushed g y entry_count < entry_most = omega (arith, pushed_else g y entry_count (omega arith) (omega arith)) in
    note_site (pushed g y) y x h few₂ (omega arith)
    ∙ ap (entering y x h) (push_site g y (omega arith))
    ∙ ap (λ (s : Site). entering y x h (became s (saying s.node (msg_of s.node.sent y)))) (length_site f x (omega arith) last up)
    ∙ ap (λ (m : Msg). entering y x h (became (site_of f) (saying (wait (node_of f) x) m))) (label_is (wait (node_of f) x).sent y pos le)

pub begin_site : (f : Part) (i : ℕ) → f sent_count ≡ 0 → f entry_count ≡ 0 → 1 ≤ i → i ≤ label_most
    → site_of (begun_part f i) ≡ became (site_of f) (begun i)
unfolding begun_part
begin_site f i none empty pos le =
    let few : pushed f i entry_count < entry_most = omega (arith, pushed_else f i entry_count (omega arith) (omega arith)) in
    phase_site (noted (pushed f i) i 0 0) 1
    ∙ ap (λ (s : Site). site started s.node.sent s.node.table s.node.lp s.delivered s.taken)
    (note_site (pushed f i) i 0 0 few (omega arith) ∙ ap (entering i 0 0) (push_site f i (omega arith)))
    ∙ rw (label_is (node_of f).sent i pos le, none, empty)
