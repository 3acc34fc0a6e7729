-- What a part means: parts that agree mean the same, and a number stored makes of the site what the method makes of it.
use mathlib.Core.Path.{◌≡◌, refl, sym, ap, ◌∙◌, fun_ext}
use mathlib.Core.Logic.{◌≢◌}
use mathlib.Core.Bool.{Bool, true, false, cond}
use mathlib.Core.List.{List}
use Prim.Native.Nat.{ℕ, zero, suc, ◌+◌, ◌<◌}
use native.Mathlib.Omega.{arith}
use native.Mathlib.Numerals.{add-one}
use lib.Dec.{ltb, eqb}
use borrow.Author.Tests.{ltb-true, ltb-false, eqb-true, eqb-false, eq-eqb, ne_eqb}
use Rattle.method.specs.Message.{Msg}
use Rattle.method.specs.Rules.{Filled, Phase}
use Rattle.method.specs.Work.{Site, one_more, took_one}
use Rattle.method.specs.Steps.{handed}
use Rattle.run_cells.specs.Part.{Part, table_size, phase_at, sent_count, entry_count, lp_at, delivered_at, taken_at, sums_at}
use Rattle.run_cells.specs.Part.{targets_at, distances_at, hops_at, messages_at, sent_from, entry_at, table_from, phase_named, row, node_of}
use Rattle.run_cells.specs.Part.{site_of}
use Rattle.run_cells.specs.Stores.{upd, raised}

-- a number read back, and another one

pub hit : (f : Part) (o v : ℕ) → upd f o v o ≡ v
hit f o v = rw (eq-eqb o o refl)

pub skip : (f : Part) (o v q : ℕ) → q ≢ o → upd f o v q ≡ f q
skip f o v q ne = rw (ne_eqb q o ne)

pub counted_else : (f : Part) (o q : ℕ) → q ≢ o → raised f o q ≡ f q
unfolding raised
counted_else f o q ne = skip f o (f o + 1) q ne

-- parts that agree mean the same

pub sent_same : (f g : Part) (k : ℕ) → ((q : ℕ) → q < k → g (messages_at + q) ≡ f (messages_at + q)) → sent_from g k ≡ sent_from f k
sent_same f g zero e = refl
sent_same f g (suc k) e = rw (e k (omega arith), sent_same f g k (λ q lt. e q (omega arith)))

pub table_same : (f g : Part) (k : ℕ) → ((q : ℕ) → q < k → entry_at g q ≡ entry_at f q) → table_from g k ≡ table_from f k
table_same f g zero e = refl
table_same f g (suc k) e = rw (e k (omega arith), table_same f g k (λ q lt. e q (omega arith)))

pub row_same : (f g : Part) (base : ℕ) → ((h : ℕ) → h < table_size → g (base + h) ≡ f (base + h)) → row g base ≡ row f base
row_same f g base e = fun_ext (λ h. go h (ltb h table_size) refl)
  where
    go : (h : ℕ) (b : Bool) → ltb h table_size ≡ b → cond b (g (base + h)) 0 ≡ cond b (f (base + h)) 0
    go h true q = e h (ltb-true h table_size q)
    go h false q = refl

abbrev pub site : Phase → List Msg → List Filled → ℕ → (ℕ → ℕ) → (ℕ → ℕ) → Site
site p s t l d k = record { node = record { phase = p; sent = s; table = t; lp = l }; delivered = d; taken = k }

pub sites : {p p' : Phase} {s s' : List Msg} {t t' : List Filled} {l l' : ℕ} {d d' k k' : ℕ → ℕ}
    → p ≡ p' → s ≡ s' → t ≡ t' → l ≡ l' → d ≡ d' → k ≡ k' → site p s t l d k ≡ site p' s' t' l' d' k'
sites a b c d e f = rw (a, b, c, d, e, f)

-- one number stored: what stays
module _ (f : Part) (o v : ℕ) where
  pub sent_off : sent_count ≢ o → ((q : ℕ) → q < f sent_count → messages_at + q ≢ o) → (node_of (upd f o v)).sent ≡ (node_of f).sent
  sent_off n off = rw (skip f o v sent_count n) (sent_same f (upd f o v) (f sent_count) (λ q lt. skip f o v (messages_at + q) (off q lt)))

  table_off : entry_count ≢ o → ((q : ℕ) → q < f entry_count → (targets_at + q ≢ o) × (distances_at + q ≢ o) × (hops_at + q ≢ o))
      → (node_of (upd f o v)).table ≡ (node_of f).table
  table_off n off =
      rw (skip f o v entry_count n)
      (table_same f (upd f o v) (f entry_count)
      (λ q lt. rw (
        skip f o v (targets_at + q) (off q lt).0,
        skip f o v (distances_at + q) (off q lt).1,
        skip f o v (hops_at + q)
            (off q lt).2,
      )))

  row_off : (base : ℕ) → ((h : ℕ) → h < table_size → base + h ≢ o) → row (upd f o v) base ≡ row f base
  row_off base off = row_same f (upd f o v) base (λ h lt. skip f o v (base + h) (off h lt))

  -- a number that no site shows
  pub dead : lp_at < o → ((h : ℕ) → h < table_size + table_size → delivered_at + h ≢ o)
      → ((q : ℕ) → q < f entry_count → (targets_at + q ≢ o) × (distances_at + q ≢ o) × (hops_at + q ≢ o))
      → ((q : ℕ) → q < f sent_count → messages_at + q ≢ o)
      → site_of (upd f o v) ≡ site_of f
  dead lt arcs table sent =
      sites (ap phase_named (skip f o v phase_at (omega arith))) (sent_off (omega arith) sent) (table_off (omega arith) table)
      (skip f o v lp_at (omega arith))
      (row_off delivered_at (λ h l. arcs h (omega arith)))
      (row_off taken_at (λ h l. let e : taken_at + h ≡ delivered_at + (table_size + h) = omega arith in
      λ q. arcs (table_size + h) (omega arith) (sym e ∙ q)))

-- numbers that the site shows

pub phase_site : (f : Part) (v : ℕ) → site_of (upd f phase_at v) ≡ site (phase_named v) (node_of f).sent (node_of f).table (f lp_at)
    (row f delivered_at) (row f taken_at)
phase_site f v =
    sites refl (sent_off f phase_at v (omega arith) (λ q lt. omega arith)) (table_off f phase_at v (omega arith) (λ q lt. omega arith)) refl
    (row_off f phase_at v delivered_at (λ h lt. omega arith)) (row_off f phase_at v taken_at (λ h lt. omega arith))

more_row : (f : Part) (base h : ℕ) → h < table_size → row (raised f (base + h)) base ≡ one_more (row f base) h
unfolding raised
more_row f base h lt = fun_ext (λ k. go k (ltb k table_size) refl (eqb k h) refl)
  where
    go : (k : ℕ) (a : Bool) → ltb k table_size ≡ a → (b : Bool) → eqb k h ≡ b
        → cond a (upd f (base + h) (f (base + h) + 1) (base + k)) 0 ≡ cond b (suc (cond a (f (base + k)) 0)) (cond a (f (base + k)) 0)
    go k true ea true eb =
        let q : k ≡ h = eqb-true k h eb in
        rw (q, hit f (base + h) (f (base + h) + 1), add-one (f (base + h)))
    go k true ea false eb =
        let ne : k ≢ h = eqb-false k h eb in
        skip f (base + h) (f (base + h) + 1) (base + k) (omega arith)
    go k false ea true eb = absurd (omega (arith, ltb-false k table_size ea, eqb-true k h eb))
    go k false ea false eb = refl

pub delivered_site : (f : Part) (h : ℕ) → h < table_size → site_of (raised f (delivered_at + h)) ≡ handed (site_of f) h
unfolding raised
delivered_site f h lt =
    let v = f (delivered_at + h) + 1 in
    sites (ap phase_named (skip f (delivered_at + h) v phase_at (omega arith)))
    (sent_off f (delivered_at + h) v (omega arith) (λ q l. omega arith))
    (table_off f (delivered_at + h) v (omega arith) (λ q l. omega arith))
    (skip f (delivered_at + h) v lp_at (omega arith)) (more_row f delivered_at h lt)
    (row_off f (delivered_at + h) v taken_at (λ k l. omega arith))

pub taken_site : (f : Part) (h : ℕ) → h < table_size → site_of (raised f (taken_at + h)) ≡ took_one (site_of f) h (node_of f)
unfolding raised
taken_site f h lt =
    let v = f (taken_at + h) + 1 in
    sites (ap phase_named (skip f (taken_at + h) v phase_at (omega arith))) (sent_off f (taken_at + h) v (omega arith) (λ q l. omega arith))
    (table_off f (taken_at + h) v (omega arith) (λ q l. omega arith))
    (skip f (taken_at + h) v lp_at (omega arith)) (row_off f (taken_at + h) v delivered_at (λ k l. omega arith)) (more_row f taken_at h lt)

pub sum_site : (f : Part) (h v : ℕ) → h < table_size → site_of (upd f (sums_at + h) v) ≡ site_of f
sum_site f h v lt = dead f (sums_at + h) v (omega arith) (λ k l. omega arith) (λ q l. omega arith) (λ q l. omega arith)
