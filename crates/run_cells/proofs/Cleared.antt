-- A part cleared, and all parts one by one.
use mathlib.Core.Path.{◌≡◌, refl, sym, ap, ◌∙◌, fun_ext, subst}
use mathlib.Core.Logic.{◌≢◌}
use mathlib.Core.Bool.{Bool, true, false, cond}
use mathlib.Core.List.{List}
use Prim.Native.Nat.{ℕ, zero, suc, ◌+◌, ◌-◌, ◌*◌, ◌≤◌, ◌<◌}
use native.Mathlib.Omega.{arith}
use native.Mathlib.Numerals.{add-one}
use lib.Dec.{ltb, leb, eqb}
use lib.ListN.{length, get_or, set, replicate}
use borrow.Author.Tests.{ltb-true, ltb-false, leb-true, leb-false, eqb-true, eqb-false, lt-ltb, le-ltb, le-leb}
use Rattle.std.proofs.lemmas.List.Edits.{fill_by_more}
use Rattle.method.specs.Message.{finite}
use Rattle.network.specs.Layout.{len_at}
use Rattle.network.specs.declared.Layout.{Layout}
use Rattle.method.specs.declared.Filled.{Filled as FilledInCode}
use Rattle.run_cells.specs.declared.Phase.TheVariants.{Unstarted}
use Rattle.run_cells.specs.declared.Part.{Part as PartInCode}
use Rattle.run_cells.specs.Part.{Part, table_size, entry_most, sent_most, delivered_at, taken_at, sums_at, marks_at, targets_at}
use Rattle.run_cells.specs.Part.{distances_at}
use Rattle.run_cells.specs.Part.{hops_at, messages_at, no_sum, sum_of, block, with_lists, numbers, parts_from}
use Rattle.run_cells.specs.Stores.{Stored, zeroed, with_sums, cleared}
use Rattle.run_cells.proofs.Fields.{deliveries, takings, summing, marking, targeting, distancing, hopping}
use Rattle.run_cells.proofs.Loads.{below_lists}

-- the first sum of an arc, or of none
pub first_sum : (l : ℕ) → l ≡ sum_of l (finite 0)
first_sum l = go (eqb l no_sum) refl
  where
    go : (b : Bool) → eqb l no_sum ≡ b → l ≡ cond b no_sum (l + 0)
    go true e = eqb-true l no_sum e
    go false e = omega arith

-- a block of nothing but zeros
none_in : (n k : ℕ) → get_or {A = ℕ} (replicate n 0) k 0 ≡ 0
none_in zero k = refl
none_in (suc n) zero = refl
none_in (suc n) (suc k) = none_in n k

pub nothing : (b n : ℕ) (f : Part) (q : ℕ) → f q ≡ 0 → block b (replicate n 0) f q ≡ 0
nothing b n f q e = go (leb b q)
  where
    go : (a : Bool) → cond a (get_or (replicate n 0) (q - b) 0) (f q) ≡ 0
    go true = none_in n (q - b)
    go false = e

-- what stands above the tables does not hang on them
pub upper : (es : List FilledInCode) (ws : List ℕ) (f g : Part) (q : ℕ) → targets_at ≤ q → with_lists es ws f q ≡ with_lists es ws g q
upper es ws f g q le = rw (le-leb targets_at q le)

-- node i's arcs as sums, up to head h
abbrev pub Laid_to : Layout → ℕ → List ℕ → ℕ → Type 0
Laid_to g i sums h = (k : ℕ) → k < h + 1 → get_or sums k 0 ≡ len_at g i k

-- no arc to number 0
pub laid_none : (g : Layout) (i : ℕ) → Laid_to g i (replicate table_size no_sum) 0
laid_none g zero zero lt = refl
laid_none g (suc i) zero lt = refl
laid_none g i (suc k) lt = absurd (omega arith)

-- one head more
pub laid_next : (g : Layout) (i h : ℕ) (sums : List ℕ) → 1 ≤ i → h + 1 < length sums → Laid_to g i sums h
    → Laid_to g i (set sums (h + 1) (get_or g.lengths (16 * (i - 1) + h) 0)) (h + 1)
laid_next g zero h sums pos lt laid k below = absurd (omega arith)
laid_next g (suc i) h sums pos lt laid k below =
    subst (λ (v : ℕ). get_or (set sums (h + 1) v) k 0 ≡ len_at g (suc i) k)
    (ap (len_at g (suc i)) (add-one h) ∙ ap (λ (o : ℕ). get_or g.lengths o 0) (omega arith))
    (fill_by_more (len_at g (suc i)) sums (h + 1) 0 lt laid k below)

-- a part with nothing in it but these sums
abbrev zeros : List ℕ
zeros = replicate table_size 0

abbrev pub fresh : PartInCode → List ℕ → PartInCode
fresh p sums =
    record {
      phase = Unstarted;
      sent = 0;
      filled = 0;
      lp = 0;
      last = 0;
      waits = 0;
      delivered = zeros;
      taken = zeros;
      sums = sums;
      marks = zeros;
      entries = p.entries;
      messages = p.messages;
    }

-- a part cleared, where the sums are the lengths of node i's arcs
module _ (p : PartInCode) (g : Layout) (i : ℕ) (sums : List ℕ) (laid : (k : ℕ) → k < table_size → get_or sums k 0 ≡ len_at g i k) where
  tables : (q : ℕ) → q < targets_at → (a : Bool) → leb marks_at q ≡ a → (b : Bool) → leb sums_at q ≡ b
      → cond a (get_or {A = ℕ} zeros (q - marks_at) 0) (cond b (get_or sums (q - sums_at) 0)
      (block taken_at zeros (block delivered_at zeros (block 0 (replicate 6 0) (λ o. 0))) q))
      ≡ with_sums g i (zeroed (numbers p) targets_at) table_size q
  tables q lt true ea b eb =
      let le = leb-true marks_at q ea in
      rw (le-ltb q sums_at (omega arith), le-ltb q (sums_at + table_size) (omega arith), lt-ltb q targets_at lt)
      (none_in table_size (q - marks_at))
  tables q lt false ea true eb =
      let le = leb-true sums_at q eb in
      let lm = leb-false marks_at q ea in
      rw (le-ltb q sums_at le, lt-ltb q (sums_at + table_size) (omega arith))
      (laid (q - sums_at) (omega arith) ∙ first_sum (len_at g i (q - sums_at)))
  tables q lt false ea false eb =
      let ls = leb-false sums_at q eb in
      rw (lt-ltb q sums_at ls, lt-ltb q targets_at lt)
      (nothing taken_at table_size (block delivered_at zeros (block 0 (replicate 6 0) (λ o. 0))) q
      (nothing delivered_at table_size (block 0 (replicate 6 0) (λ o. 0)) q (nothing 0 6 (λ o. 0) q refl)))

  pub clear_law : numbers (fresh p sums) ≡ with_sums g i (zeroed (numbers p) targets_at) table_size
  unfolding numbers
  clear_law = fun_ext (λ q. go q (ltb q targets_at) refl)
    where
      go : (q : ℕ) (a : Bool) → ltb q targets_at ≡ a → numbers (fresh p sums) q ≡ with_sums g i (zeroed (numbers p) targets_at) table_size q
      go q true e =
          let lt = ltb-true q targets_at e in
          below_lists (fresh p sums) q lt ∙ tables q lt (leb marks_at q) refl (leb sums_at q) refl
      go q false e =
          let le = ltb-false q targets_at e in
          rw (le-ltb q sums_at (omega arith), le-ltb q (sums_at + table_size) (omega arith), le-ltb q targets_at le)
          (upper p.entries p.messages (marking (fresh p sums)) (marking p) q le)

-- one part more
pub clear_first : (g : Layout) (m : ℕ → Part) → m ≡ cleared g m 0
clear_first g m = fun_ext go
  where
    go : (j : ℕ) → m j ≡ cleared g m 0 j
    go zero = refl
    go (suc j) = rw (le-ltb j 0 (omega arith))

pub clear_next : (g : Layout) (i : ℕ) (m : ℕ → Part) {n t : ℕ → Part} → n ≡ cleared g m i
    → Stored n (i + 1) (with_sums g (i + 1) (zeroed (n (i + 1)) targets_at) table_size) t
    → t ≡ cleared g m (i + 1)
clear_next g i m {n} {t} e d = fun_ext part
  where
    was : (j : ℕ) → n j ≡ cleared g m i j
    was j = ap (λ (k : ℕ → Part). k j) e

    kept_there : (j : ℕ) → j ≢ i + 1 → t j ≡ cleared g m i j
    kept_there j ne = d.there j ne ∙ was j

    own : n (i + 1) ≡ m (i + 1)
    own = ap n (add-one i) ∙ was (suc i) ∙ rw (le-ltb i i (omega arith)) (ap m (sym (add-one i)))

    here : t (i + 1) ≡ with_sums g (i + 1) (zeroed (m (i + 1)) targets_at) table_size
    here = d.here ∙ ap (λ (f : Part). with_sums g (i + 1) (zeroed f targets_at) table_size) own

    go : (j : ℕ) (a : Bool) → eqb j i ≡ a → (b : Bool) → ltb j i ≡ b → t (suc j) ≡ cleared g m (i + 1) (suc j)
    go j true ea b eb =
        let q : suc j ≡ i + 1 = omega (arith, eqb-true j i ea) in
        ap t q ∙ here ∙ ap (λ (k : ℕ). with_sums g k (zeroed (m k) targets_at) table_size) (sym q) ∙ rw (lt-ltb j (i + 1) (omega arith))
    go j false ea true eb =
        let ne = eqb-false j i ea in
        let lt = ltb-true j i eb in
        kept_there (suc j) (λ q. ne (omega arith)) ∙ rw (lt-ltb j i lt, lt-ltb j (i + 1) (omega arith))
    go j false ea false eb =
        let ne = eqb-false j i ea in
        let le = ltb-false j i eb in
        kept_there (suc j) (λ q. ne (omega arith)) ∙ rw (le-ltb j i le, le-ltb j (i + 1) (omega arith))

    part : (j : ℕ) → t j ≡ cleared g m (i + 1) j
    part zero = kept_there zero (λ q. omega arith)
    part (suc j) = go j (eqb j i) refl (ltb j i) refl

-- nothing in any part
pub parts_nothing : (n : ℕ) (p : PartInCode) → ((o : ℕ) → numbers p o ≡ 0) → (i o : ℕ) → parts_from (replicate n p) i o ≡ 0
parts_nothing zero p e i o = refl
parts_nothing (suc n) p e zero o = e o
parts_nothing (suc n) p e (suc i) o = parts_nothing n p e i o

abbrev pub nobody : FilledInCode
nobody = record { target = 0; distance = 0; hop = 0 }

abbrev pub unborn : PartInCode
unborn =
    record {
      phase = Unstarted;
      sent = 0;
      filled = 0;
      lp = 0;
      last = 0;
      waits = 0;
      delivered = replicate table_size 0;
      taken = replicate table_size 0;
      sums = replicate table_size 0;
      marks = replicate table_size 0;
      entries = replicate entry_most nobody;
      messages = replicate sent_most 0;
    }

pub unborn_nothing : (o : ℕ) → numbers unborn o ≡ 0
unfolding numbers
unborn_nothing o =
    nothing messages_at sent_most (hopping unborn) o
    (nothing hops_at entry_most (distancing unborn) o
    (nothing distances_at entry_most (targeting unborn) o
    (nothing targets_at entry_most (marking unborn) o
    (nothing marks_at table_size (summing unborn) o
    (nothing sums_at table_size (takings unborn) o
    (nothing taken_at table_size (deliveries unborn) o
    (nothing delivered_at table_size (block 0 (replicate 6 0) (λ o. 0)) o (nothing 0 6 (λ o. 0) o refl))))))))
