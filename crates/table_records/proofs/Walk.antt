-- The laws of the cursor, for every form: its beginning, and each way that a step can go.
use mathlib.Core.Path.{◌≡◌, refl, sym, ◌∙◌, ap}
use mathlib.Core.Logic.{◌≢◌}
use mathlib.Core.List.{List, [], ◌∷◌, ◌++◌}
use Rattle.std.specs.Prelude.{Option}
use mathlib.Core.Bool.{true, false, ◌&&◌}
use Prim.Native.Nat.{ℕ, zero, suc, ◌+◌, ◌-◌, ◌/◌, ◌^◌, ◌≤◌, ◌<◌}
use native.Mathlib.Omega.{arith}
use lib.ListN.{length, length-append}
use lib.Seq.{drop-append-add}
use lib.Dec.{eqb}
use lib.Pow.{pow_mono}
use borrow.Author.Tests.{eq-eqb, ne_eqb}
use Rattle.method.specs.Network.{IsNode}
use Rattle.method.specs.Rules.{Filled}
use Rattle.method.specs.Entries.{last_distance}
use Rattle.refusal.specs.Rows.{Row, first, refused}
use Rattle.refusal.proofs.Rows.{clear}
use Rattle.table.specs.File.{Form, one, header_size, record_size, start_of}
use Rattle.table.specs.declared.Header.{Header}
use Rattle.table.specs.Reader.{stands, walk, records_in, record_at, field_rows, record_rows, next_rows, body_rows}
use Rattle.table.proofs.Sizes.{start_zero, start_suc}
use Rattle.table.proofs.Passed.{few_records, last_distance_lem}
use Rattle.table.specs.Passed.{Passed}
use Rattle.table.proofs.Walk.{stands_fits, walk_stop, walk_on, walk_keeps, taken_passed, body_first}
use Rattle.table_records.specs.Parts.{FirstWrong, refusal_at}
use Rattle.table_records.specs.declared.Field.{Field}
use Rattle.table_records.specs.Walk.{is_in, seen_of, beginning, At, before}
use Rattle.table_records.specs.declared.Cursor.{Cursor}
use Rattle.table_records.proofs.Seen.{seen_is, seen_below}

pub at_begin : (h : Header) (B : List ℕ) → At one h B beginning []
unfolding seen_of records_in
at_begin h B =
    let e : length B - 0 ≡ length B = omega arith in
    record { walks = rw e; place = refl; seen = refl; distance = refl }

-- a walk keeps the records that it began with
walk_more : (f : Form) (h : Header) (t : ℕ) (es : List Filled) (B : List ℕ) (p : ℕ)
    → (more : List Filled) × (walk f h t es B p ≡ more ++ es)
walk_more f h t es B p =
    (walk_keeps f h B (λ xs q. (more : List Filled) × (xs ≡ more ++ es))
    (λ xs q s l c. (record_at f xs B q ∷ s.0, ap (λ (ys : List Filled). record_at f xs B q ∷ ys) s.1))
    t es p ([], refl)).1

passed_rest : (h : Header) (more es : List Filled) → Passed h (more ++ es) → Passed h es
passed_rest h [] es p = p
passed_rest h (e ∷ more) es p = passed_rest h more es p.1

-- the records before the cursor are those of the file that stand there
pub at_before : {h : Header} {B : List ℕ} {c : Cursor} {es : List Filled} → At one h B c es → before h B c.at ≡ es
unfolding before
at_before {h} {B} {c} {es} a =
    let w = walk_more one h (length B - length es) es B c.at in
    let all : records_in one h B ≡ w.0 ++ es = a.walks ∙ w.1 in
    let k : (c.at - 16) / 13 ≡ length es = omega (arith, a.place) in
    let n : length (w.0 ++ es) - length es ≡ length w.0 + 0 = omega (arith, length-append w.0 es) in
    rw (k, all, n) (drop-append-add w.0 es 0)

-- the first record is not at distance 0, and so none is
passed_some : (h : Header) (e : Filled) (es : List Filled) → Passed h (e ∷ es) → 1 ≤ e.distance
passed_some h e [] p = p.0.first refl
passed_some h e (x ∷ es) p = omega (arith, p.0.sound.rises, passed_some h x es p.1)

module _ {f : Form} {h : Header} {B : List ℕ} {c : Cursor} {es : List Filled} (a : At f h B c es) where
  -- they pass, as all that the walk takes
  pub passed : Passed h es
  passed =
      let w = walk_more f h (length B - length es) es B c.at in
      passed_rest h w.0 es (rw (← w.1, ← a.walks) (taken_passed f h B))

  -- the record there, its rows, and what follows them
  abbrev here : Filled
  here = record_at f es B c.at

  abbrev rows : List Row
  rows = record_rows f h es here

  -- the records end there: those taken are es, and the file is refused by the first row of what stands there, if one holds
  abbrev Ends : Type 0
  Ends = (records_in f h B ≡ es) × (first (body_rows f h B) ≡ first (next_rows f h es B c.at))

  ends : records_in f h B ≡ es → Ends
  ends q = (
    q,
    body_first f h B ∙ ap (λ (xs : List Filled). first (next_rows f h xs B (start_of f (length xs)))) q
        ∙ ap (λ (p : ℕ). first (next_rows f h es B p)) (sym a.place),
  )

  -- no record stands there
  pub at_nothing : stands f B c.at ≡ false → Ends
  at_nothing e = ends (a.walks ∙ walk_stop f h (length B - length es) es B c.at (rw e))

  -- a record stands there
  module _ (there : stands f B c.at ≡ true) where
    pub at_wrong : refused rows ≢ 0 → Ends
    at_wrong n = ends (a.walks ∙ walk_stop f h (length B - length es) es B c.at (rw (there, ne_eqb (refused rows) 0 n)))

    takes_one : refused rows ≡ 0 → records_in f h B ≡ walk f h (length B - suc (length es)) (here ∷ es) B (c.at + record_size f)
    takes_one z =
        let l : length es < length B = omega (arith, stands_fits f B c.at there, a.place) in
        a.walks
        ∙ ap (λ (m : ℕ). walk f h m es B c.at) (omega arith)
        ∙ walk_on f h (length B - suc (length es)) es B c.at there (clear rows z)

    pub at_next : (y d o : ℕ) → here ≡ record { target = y; distance = d; hop = o } → refused rows ≡ 0
        → At f h B (record { at = c.at + record_size f; seen = c.seen + 2 ^ (y - 1); distance = d })
        (record { target = y; distance = d; hop = o } ∷ es)
    unfolding seen_of
    at_next y d o e z =
        record {
          walks = rw e at (takes_one z);
          place = ap (λ (p : ℕ). p + record_size f) a.place ∙ sym (start_suc f (length es));
          seen = ap (λ (m : ℕ). m + 2 ^ (y - 1)) a.seen;
          distance = refl;
        }

  -- the code's numbers for 17's rows: a target is repeated if it is in the set, and a record the first one if the cursor is where the
  -- first one is
  rows_are : (y d o : ℕ) → 1 ≤ y → here ≡ record { target = y; distance = c.distance + d; hop = o }
      → rows ≡ field_rows f h c.at (is_in c.seen y) (eqb c.at (header_size f)) y o d
  rows_are y d o g e =
      let q : c.distance + d - last_distance es ≡ d = omega (arith, a.distance) in
      rw (e, q, a.seen, seen_is h es passed y g, first_one_lem (length es) a.place, a.place)
    where
      first_one_lem : (k : ℕ) → c.at ≡ start_of f k → eqb c.at (header_size f) ≡ eqb k 0
      first_one_lem zero p = eq-eqb c.at (header_size f) (p ∙ start_zero f)
      first_one_lem (suc k) p = ne_eqb c.at (header_size f) (omega (arith, p, start_suc f k)) ∙ sym (ne_eqb (suc k) 0 (omega arith))

  -- its distance is 0 exactly where it is the first and its difference is 0
  no_distance : (d : ℕ) → eqb (c.distance + d) 0 ≡ (eqb c.at (header_size f) && eqb d 0)
  no_distance d = go es a.place a.distance passed
    where
      go : (es : List Filled) → c.at ≡ start_of f (length es) → c.distance ≡ last_distance es → Passed h es
          → eqb (c.distance + d) 0 ≡ (eqb c.at (header_size f) && eqb d 0)
      go [] p q w =
          let z : c.distance + d ≡ d = omega (arith, q) in
          rw (eq-eqb c.at (header_size f) (p ∙ start_zero f), z)
      go (e ∷ es) p q w =
          rw (
            ne_eqb c.at (header_size f) (omega (arith, p, start_suc f (length es))),
            ne_eqb (c.distance + d) 0 (omega (arith, q, passed_some h e es w)),
          )

  -- what field k, the first that is wrong, tells of them
  pub rows_first : (y d o : ℕ) (k : Option Field) → 1 ≤ y → here ≡ record { target = y; distance = c.distance + d; hop = o }
      → FirstWrong f h (is_in c.seen y) y o d (eqb (c.distance + d) 0) k → first rows ≡ refusal_at f c.at k
  rows_first y d o k g e w = ap first (rows_are y d o g e) ∙ w c.at (eqb c.at (header_size f)) (no_distance d)

-- a cursor at such records has small numbers in a small house
pub at_narrow : {h : Header} {B : List ℕ} {c : Cursor} {es : List Filled} → IsNode h.n h.own → h.n ≤ 16 → h.lmax < 16
    → At one h B c es → (c.at ≤ 224) × (c.seen < 65536) × (c.distance ≤ 240)
at_narrow {h} {B} {c} {es} own n l a =
    let p = passed a in
    let few = few_records h own es p in
    let m : 2 ^ h.n ≤ 2 ^ 16 = pow_mono {j = 16} n in (
      omega (arith, a.place),
      omega (arith, a.seen, seen_below h es p),
      omega (arith, a.distance, last_distance_lem h es p l),
    )
