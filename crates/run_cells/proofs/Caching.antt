-- Every store that the rules ask for keeps what a part holds beside its site.
use mathlib.Core.Path.{◌≡◌, refl, sym, ap, subst, ◌∙◌}
use mathlib.Core.Logic.{◌≢◌}
use mathlib.Core.Bool.{Bool, true, false, cond}
use mathlib.Core.Option.{some}
use mathlib.Core.List.{List, ◌∷◌}
use Prim.Native.Nat.{ℕ, zero, suc, ◌+◌, ◌≤◌, ◌<◌}
use native.Mathlib.Omega.{arith}
use native.Mathlib.Numerals.{add-one}
use lib.Dec.{eqb}
use lib.ListN.{length}
use borrow.Author.Tests.{eqb-true, eqb-false, eq-eqb}
use Rattle.method.specs.Message.{Msg, last_len, item, oldest, sent_after}
use Rattle.method.specs.Rules.{Filled}
use Rattle.method.specs.Work.{Site, heard, took_one}
use Rattle.method.specs.Entries.{find}
use Rattle.method.proofs.Sent.{send_len_last}
use Rattle.method.proofs.View.{with}
use Rattle.method.proofs.Oldest.{heard_took}
use Rattle.network.specs.Layout.{len_at}
use Rattle.network.specs.declared.Layout.{Layout}
use Rattle.run_cells.specs.Part.{Part, entry_most, table_size, label_most, phase_at, sent_count, entry_count, lp_at, last_at, waits_at}
use Rattle.run_cells.specs.Part.{delivered_at, taken_at, sums_at, marks_at, targets_at, distances_at, hops_at, messages_at, msg_of}
use Rattle.run_cells.specs.Part.{entry_at}
use Rattle.run_cells.specs.Part.{row}
use Rattle.run_cells.specs.Part.{node_of, site_of, entry_marked, sum_of}
use Rattle.run_cells.specs.Stores.{upd, raised, pushed, length_sent, waited, noted, filled, stopped_part, begun_part}
use Rattle.run_cells.specs.Caches.{Last, Marks, Sums, Caches}
use Rattle.run_cells.proofs.Stored.{pushed_else, sent_else}
use Rattle.run_cells.proofs.Lists.{row_at}
use Rattle.run_cells.proofs.Meaning.{skip, table_same, sent_off}
use Rattle.run_cells.proofs.MessageStores.{label_is, push_site, sent_last, length_site}
use Rattle.run_cells.proofs.EntryStores.{noted_else, noted_kept, noted_mark, noted_old, noted_new, noted_count, noted_sent}
use Rattle.run_cells.proofs.EntryStores.{noted_table}

marked_same : (f f' : Part) (k : ℕ) → ((q : ℕ) → q < k → entry_at f' q ≡ entry_at f q) → entry_marked f' k ≡ entry_marked f k
marked_same f f' zero e = refl
marked_same f f' (suc k) e = ap some (e k (omega arith))

-- from the place lo to the messages all is the same, and the number of entries too
pub record Quiet (lo : ℕ) (f f' : Part) : Type 0 where
  pub count : f' entry_count ≡ f entry_count
  pub same : (q : ℕ) → lo ≤ q → q < messages_at → f' q ≡ f q

-- targets and their entries
module _ (f f' : Part) (quiet : Quiet marks_at f f') (few : f entry_count ≤ entry_most) where
  old : (q : ℕ) → q < f entry_count → entry_at f' q ≡ entry_at f q
  old q lt = rw (
    quiet.same (targets_at + q) (omega arith) (omega arith),
    quiet.same (distances_at + q) (omega arith) (omega arith),
    quiet.same (hops_at + q) (omega arith) (omega arith),
  )

  tables : (node_of f').table ≡ (node_of f).table
  tables = rw quiet.count (table_same f f' (f entry_count) old)

  pub quiet_marks : Marks f → Marks f'
  quiet_marks c y lt =
      let a = c y lt in
      let e : f' (marks_at + y) ≡ f (marks_at + y) = quiet.same (marks_at + y) (omega arith) (omega arith) in
      let m : entry_marked f' (f (marks_at + y)) ≡ entry_marked f (f (marks_at + y)) =
      marked_same f f' (f (marks_at + y)) (λ q l. old q (omega (arith, a.0))) in
      (omega (arith, a.0, quiet.count), ap (find y) tables ∙ a.1 ∙ sym (ap (entry_marked f') e ∙ m))

-- sums go by what stands in their places and by what was taken
sums_same : (g : Layout) (i : ℕ) (ss : ℕ → List Msg) (f f' : Part) → ((q : ℕ) → taken_at ≤ q → q < marks_at → f' q ≡ f q) → Sums g i ss f
    → Sums g i ss f'
sums_same g i ss f f' same c h lt =
    same (sums_at + h) (omega arith) (omega arith) ∙ c h lt
    ∙ ap (λ (t : ℕ). sum_of (len_at g i h) (item (oldest t (ss h))))
    (row_at f taken_at h lt ∙ sym (row_at f' taken_at h lt ∙ same (taken_at + h) (omega arith) (omega arith)))

module _ (g : Layout) (i : ℕ) (ss : ℕ → List Msg) where
  quiet_caches : (f f' : Part) → Quiet taken_at f f' → f entry_count ≤ entry_most → Caches g i ss f → Last f' → Caches g i ss f'
  quiet_caches f f' quiet few c last =
      record {
        last = last;
        marks = quiet_marks f f' (record { count = quiet.count; same = λ q lo hi. quiet.same q (omega arith) hi }) few c.marks;
        sums = sums_same g i ss f f' (λ q lo hi. quiet.same q lo (omega arith)) c.sums;
      }

  -- phase, or the head waited for
  aside_caches : (f : Part) (o v : ℕ) → o < delivered_at → o ≢ sent_count → o ≢ entry_count → o ≢ last_at → f entry_count ≤ entry_most
      → Caches g i ss f → Caches g i ss (upd f o v)
  aside_caches f o v lt n1 n2 n4 few c =
      quiet_caches f (upd f o v)
      (record { count = skip f o v entry_count (λ e. n2 (sym e)); same = λ q lo hi. skip f o v q (omega arith) }) few c
      (skip f o v last_at (λ e. n4 (sym e)) ∙ c.last ∙ sym (ap last_len (sent_off f o v (λ e. n1 (sym e)) (λ q l. omega arith))))

  push_caches : (f : Part) (w : ℕ) → w ≤ label_most → f entry_count ≤ entry_most → Caches g i ss f → Caches g i ss (pushed f w)
  push_caches f w le few c =
      quiet_caches f (pushed f w)
      (record {
        count = pushed_else f w entry_count (omega arith) (omega arith);
        same = λ q lo hi. pushed_else f w q hi (omega arith);
      }) few c
      (pushed_else f w last_at (omega arith) (omega arith) ∙ c.last
      ∙ sym (ap (λ (s : Site). last_len s.node.sent) (push_site f w few) ∙ no_length (eqb w 0) refl))
    where
      no_length : (b : Bool) → eqb w 0 ≡ b → last_len (msg_of (node_of f).sent w ∷ (node_of f).sent) ≡ last_len (node_of f).sent
      no_length true e = ap (λ (k : ℕ). last_len (msg_of (node_of f).sent k ∷ (node_of f).sent)) (eqb-true w 0 e)
      no_length false e = let ne = eqb-false w 0 e in
          ap (λ (m : Msg). last_len (m ∷ (node_of f).sent)) (label_is (node_of f).sent w (omega arith) le)

  length_caches : (f : Part) (x : ℕ) → f entry_count ≤ entry_most → f last_at ≤ x → Caches g i ss f → Caches g i ss (length_sent f x)
  length_caches f x few le c =
      quiet_caches f (length_sent f x)
      (record {
        count = sent_else f x entry_count (omega arith) (omega arith) (omega arith);
        same = λ q lo hi. sent_else f x q hi (omega arith) (omega arith);
      }) few c
      (sent_last f x ∙ sym (ap (λ (s : Site). last_len s.node.sent) (length_site f x few c.last le)
      ∙ send_len_last (node_of f).sent x))

  note_caches : (f : Part) (y x h : ℕ) → f entry_count < entry_most → y < table_size → Caches g i ss f → Caches g i ss (noted f y x h)
  note_caches f y x h few node c =
      record {
        last = kept last_at (omega arith) (omega arith) (omega arith) ∙ c.last ∙ sym (ap last_len (noted_sent f y x h few node));
        marks = λ z lt. marks z lt (eqb z y) refl;
        sums = sums_same g i ss f (noted f y x h) (λ q lo hi. kept q (omega arith) (omega arith) (omega arith)) c.sums;
      }
    where
      kept : (o : ℕ) → o < marks_at → o ≢ lp_at → o ≢ entry_count → noted f y x h o ≡ f o
      kept = noted_kept f y x h few node

      new : Filled
      new = record { target = y; distance = x; hop = h }

      marks : (z : ℕ) → z < table_size → (b : Bool) → eqb z y ≡ b
          → (noted f y x h (marks_at + z) ≤ noted f y x h entry_count)
          × (find z (node_of (noted f y x h)).table ≡ entry_marked (noted f y x h)
          (noted f y x h (marks_at + z)))
      marks z lt true e =
          let q : z ≡ y = eqb-true z y e in
          let m : noted f y x h (marks_at + z) ≡ suc (f entry_count) = ap (λ (k : ℕ). noted f y x h (marks_at + k)) q
          ∙ noted_mark f y x h few node ∙ add-one (f entry_count) in (
            omega (arith, m, noted_count f y x h few node),
            ap (find z) (noted_table f y x h few node) ∙ ap (λ (b : Bool). cond b (some new) (find z (node_of f).table)) e
                ∙ sym (ap (entry_marked (noted f y x h)) m ∙ ap some (noted_new f y x h few node)),
          )
      marks z lt false e =
          let ne = eqb-false z y e in
          let a = c.marks z lt in
          let m : noted f y x h (marks_at + z) ≡ f (marks_at + z) = noted_else f y x h (marks_at + z) (omega arith) (omega arith)
          (omega arith) (omega arith) (omega arith) (omega arith) in (
            omega (arith, m, a.0, noted_count f y x h few node),
            ap (find z) (noted_table f y x h few node) ∙ ap (λ (b : Bool). cond b (some new) (find z (node_of f).table)) e ∙ a.1
                ∙ sym (ap (entry_marked (noted f y x h)) m
                ∙ marked_same f (noted f y x h) (f (marks_at + z)) (λ q l. noted_old f y x h few node q (omega (arith, a.0)))),
          )

  -- the rules' stores
  pub wait_caches : (f : Part) (x h : ℕ) → f entry_count ≤ entry_most → f last_at ≤ x → Caches g i ss f → Caches g i ss (waited f x h)
  unfolding waited
  wait_caches f x h few le c =
      aside_caches (length_sent f x) waits_at h (omega arith) (omega arith) (omega arith) (omega arith)
      (omega (arith, sent_else f x entry_count (omega arith) (omega arith) (omega arith))) (length_caches f x few le c)

  pub stop_caches : (f : Part) → f entry_count ≤ entry_most → Caches g i ss f → Caches g i ss (stopped_part f)
  unfolding stopped_part
  stop_caches f few c =
      aside_caches (pushed f 0) phase_at 2 (omega arith) (omega arith) (omega arith) (omega arith)
      (omega (arith, pushed_else f 0 entry_count (omega arith) (omega arith))) (push_caches f 0 (omega arith) few c)

  pub fill_caches : (f : Part) (h x y : ℕ) → f entry_count < entry_most → y ≤ label_most → f last_at ≤ x → Caches g i ss f
      → Caches g i ss (filled f h x y)
  unfolding filled
  fill_caches f h x y few le up c =
      let e = sent_else f x entry_count (omega arith) (omega arith) (omega arith) in
      note_caches (pushed (length_sent f x) y) y x h
      (omega (arith, e, pushed_else (length_sent f x) y entry_count (omega arith) (omega arith))) (omega arith)
      (push_caches (length_sent f x) y le (omega (arith, e)) (length_caches f x (omega arith) up c))

  pub begin_caches : (f : Part) (k : ℕ) → f entry_count ≡ 0 → k ≤ label_most → Caches g i ss f → Caches g i ss (begun_part f k)
  unfolding begun_part
  begin_caches f k empty le c =
      let few : pushed f k entry_count < entry_most = omega (arith, pushed_else f k entry_count (omega arith) (omega arith)) in
      aside_caches (noted (pushed f k) k 0 0) phase_at 1 (omega arith) (omega arith) (omega arith) (omega arith)
      (omega (arith, noted_count (pushed f k) k 0 0 few (omega arith)))
      (note_caches (pushed f k) k 0 0 few (omega arith) (push_caches f k le (omega arith) c))

  pub hand_caches : (f : Part) (h : ℕ) → h < table_size → f entry_count ≤ entry_most → Caches g i ss f
      → Caches g i ss (raised f (delivered_at + h))
  unfolding raised
  hand_caches f h lt few c =
      let v = f (delivered_at + h) + 1 in
      quiet_caches f (upd f (delivered_at + h) v)
      (record {
        count = skip f (delivered_at + h) v entry_count (omega arith);
        same = λ q lo hi. skip f (delivered_at + h) v q (omega arith);
      }) few c
      (skip f (delivered_at + h) v last_at (omega arith) ∙ c.last
      ∙ sym (ap last_len (sent_off f (delivered_at + h) v (omega arith) (λ q l. omega arith))))

  -- A message is taken on the arc to h, and v is the arc's sum then.
  module _ (f f' : Part) (h : ℕ) (head : h < table_size) (few : f entry_count ≤ entry_most) (c : Caches g i ss f)
      (lt : row f taken_at h < length (ss h)) where
    pub took_caches : site_of f' ≡ took_one (site_of f) h (node_of f) → f' entry_count ≡ f entry_count → f' last_at ≡ f last_at
        → ((q : ℕ) → sums_at ≤ q → q < messages_at → q ≢ sums_at + h → f' q ≡ f q)
        → f' (sums_at + h) ≡ sum_of (len_at g i h) (item (sent_after (row f taken_at h) (ss h) ∷ heard ss (site_of f) h)) → Caches g i ss f'
    took_caches site count last same sum =
        record {
          last = last ∙ c.last ∙ sym (ap (λ (s : Site). last_len s.node.sent) site);
          marks = quiet_marks f f' (record { count = count; same = λ q lo hi. same q (omega arith) hi (omega arith) }) few c.marks;
          sums = λ k l. sums k l (eqb k h) refl;
        }
      where
        taken : heard ss (site_of f') ≡ with (heard ss (site_of f)) h (sent_after (row f taken_at h) (ss h))
        taken = ap (heard ss) site ∙ heard_took (site_of f) h (node_of f) ss lt

        sums : (k : ℕ) → k < table_size → (b : Bool) → eqb k h ≡ b
            → f' (sums_at + k) ≡ sum_of (len_at g i k) (item (heard ss (site_of f') k))
        sums k l true e =
            let q : h ≡ k = sym (eqb-true k h e) in
            subst (λ (n : ℕ). f' (sums_at + n) ≡ sum_of (len_at g i n) (item (heard ss (site_of f') n))) q
            (sum ∙ ap (λ (t : List Msg). sum_of (len_at g i h) (item t))
            (sym (ap (λ (T : ℕ → List Msg). T h) taken
            ∙ ap (λ (b : Bool). cond b (sent_after (row f taken_at h) (ss h) ∷ heard ss (site_of f) h) (heard ss (site_of f) h))
            (eq-eqb h h refl))))
        sums k l false e =
            let ne = eqb-false k h e in
            same (sums_at + k) (omega arith) (omega arith) (omega arith) ∙ c.sums k l
            ∙ ap (λ (t : List Msg). sum_of (len_at g i k) (item t))
            (sym (ap (λ (T : ℕ → List Msg). T k) taken
            ∙ ap (λ (b : Bool). cond b (sent_after (row f taken_at h) (ss h) ∷ heard ss (site_of f) k) (heard ss (site_of f) k)) e))
