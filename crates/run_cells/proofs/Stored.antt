-- A part that changes among all parts, stores one after another, and the stores of the code as those of specs/Stores.
use mathlib.Core.Path.{◌≡◌, refl, sym, ap, subst, ◌∙◌}
use mathlib.Core.Logic.{◌≢◌}
use mathlib.Core.Bool.{Bool, true, false, cond}
use mathlib.Core.List.{List, [], ◌∷◌}
use Prim.Native.Nat.{ℕ, zero, suc, ◌+◌, ◌-◌, ◌≤◌, ◌<◌}
use native.Mathlib.Numerals.{add-one}
use native.Mathlib.Omega.{arith}
use lib.Dec.{ltb, leb, eqb}
use lib.ListN.{length, get_or, set}
use borrow.Author.Tests.{eqb-true, eqb-false, eq-eqb, ne_eqb, lt-ltb, le-leb, lt-leb, leb-false}
use Rattle.std.specs.Prelude.{Some, None}
use Rattle.run_cells.specs.declared.Phase.TheVariants.{Unstarted}
use Rattle.run_cells.specs.declared.Part.{Part as PartInCode}
use Rattle.run_cells.specs.declared.State.{State as StateInCode}
use Rattle.run_cells.specs.Part.{Part, nodes_most, label_most, table_size, sent_count, last_at, waits_at, delivered_at, taken_at}
use Rattle.run_cells.specs.Part.{messages_at, numbers, parts_from, cells}
use Rattle.run_cells.specs.Stores.{upd, Stored, raised, pushed, length_sent, waited, waiting, took}
use Rattle.run_cells.proofs.Loads.{sent_is, waits_is, delivered_is, message_is}

-- what the code's terms have where there is no part
abbrev pub blank : PartInCode
blank =
    record {
      phase = Unstarted;
      sent = 0;
      filled = 0;
      lp = 0;
      last = 0;
      waits = 0;
      delivered = [];
      taken = [];
      sums = [];
      marks = [];
      entries = [];
      messages = [];
    }

-- a part of all
part_at : (ps : List PartInCode) (k : ℕ) (d : PartInCode) → k < length ps → parts_from ps k ≡ numbers (get_or ps k d)
part_at [] k d lt = absurd (omega arith)
part_at (p ∷ ps) zero d lt = refl
part_at (p ∷ ps) (suc k) d lt = part_at ps k d (omega arith)

-- there is such a place
abbrev pub Within : StateInCode → ℕ → Type 0
Within s k = (k < length s.parts) × (k < nodes_most)

pub next_part : (s : StateInCode) (k : ℕ) (d : PartInCode) → Within s k → cells s (k + 1) ≡ numbers (get_or s.parts k d)
next_part s k d lt =
    ap (cells s) (add-one k) ∙ ap (λ (b : Bool). cond b (parts_from s.parts k) (λ o. 0)) (lt-ltb k nodes_most lt.1)
    ∙ part_at s.parts k d lt.0

-- there is a place for node i
abbrev pub Placed : StateInCode → ℕ → Type 0
Placed s i = (i ≤ length s.parts) × (i ≤ nodes_most)

pub own_part : (s : StateInCode) (i : ℕ) (d : PartInCode) → 1 ≤ i → Placed s i → cells s i ≡ numbers (get_or s.parts (i - 1) d)
own_part s i d pos le = let e : i ≡ i - 1 + 1 = omega arith in ap (cells s) e ∙ next_part s (i - 1) d (omega (arith, le))

-- a part changed
changed : (ps : List PartInCode) (k : ℕ) (p : PartInCode) → k < length ps → parts_from (set ps k p) k ≡ numbers p
changed [] k p lt = absurd (omega arith)
changed (q ∷ ps) zero p lt = refl
changed (q ∷ ps) (suc k) p lt = changed ps k p (omega arith)

unchanged : (ps : List PartInCode) (k j : ℕ) (p : PartInCode) → j ≢ k → parts_from (set ps k p) j ≡ parts_from ps j
unchanged [] k j p ne = refl
unchanged (q ∷ ps) zero zero p ne = absurd (ne refl)
unchanged (q ∷ ps) zero (suc j) p ne = refl
unchanged (q ∷ ps) (suc k) zero p ne = refl
unchanged (q ∷ ps) (suc k) (suc j) p ne = unchanged ps k j p (λ e. ne (ap suc e))

pub store_next : (s : StateInCode) (k : ℕ) (p : PartInCode) → Within s k
    → Stored (cells s) (k + 1) (numbers p) (cells (record { parts = set s.parts k p }))
store_next s k p lt =
    record {
      here =
          ap (cells (record { parts = set s.parts k p })) (add-one k)
          ∙ ap (λ (b : Bool). cond b (parts_from (set s.parts k p) k) (λ o. 0)) (lt-ltb k nodes_most lt.1) ∙ changed s.parts k p lt.0;
      there = other;
    }
  where
    other : (j : ℕ) → j ≢ k + 1 → cells (record { parts = set s.parts k p }) j ≡ cells s j
    other zero ne = refl
    other (suc j) ne =
        ap (λ (f : Part). cond (ltb j nodes_most) f (λ o. 0)) (unchanged s.parts k j p (λ e. ne (omega arith)))

pub store_own : (s : StateInCode) (i : ℕ) (p : PartInCode) → 1 ≤ i → Placed s i
    → Stored (cells s) i (numbers p) (cells (record { parts = set s.parts (i - 1) p }))
store_own s i p pos le =
    let e : i - 1 + 1 ≡ i = omega arith in
    subst (λ (j : ℕ). Stored (cells s) j (numbers p) (cells (record { parts = set s.parts (i - 1) p }))) e
    (store_next s (i - 1) p (omega (arith, le)))

-- a number of a part
module _ (s : StateInCode) (k : ℕ) (lt : Within s k) where
  abbrev pub part : PartInCode
  part = get_or s.parts k blank

  pub next_delivered : (h : ℕ) → h < table_size → cells s (k + 1) (delivered_at + h) ≡ get_or part.delivered h 0
  next_delivered h l = ap (λ (f : Part). f (delivered_at + h)) (next_part s k blank lt) ∙ delivered_is part h l

  pub next_sent : cells s (k + 1) sent_count ≡ part.sent
  next_sent = ap (λ (f : Part). f sent_count) (next_part s k blank lt) ∙ sent_is part

  pub next_waits : cells s (k + 1) waits_at ≡ part.waits
  next_waits = ap (λ (f : Part). f waits_at) (next_part s k blank lt) ∙ waits_is part

pub own_message : (s : StateInCode) (i t : ℕ) → 1 ≤ i → Placed s i
    → cells s i (messages_at + t) ≡ get_or (get_or s.parts (i - 1) blank).messages t 0
own_message s i t pos le =
    ap (λ (f : Part). f (messages_at + t)) (own_part s i blank pos le) ∙ message_is (get_or s.parts (i - 1) blank) t

-- nothing stored, and one store after another
pub kept : (m : ℕ → Part) (i : ℕ) → Stored m i (m i) m
kept m i = record { here = refl; there = λ j ne. refl }

pub then : {m n r : ℕ → Part} {i : ℕ} {f : Part} (G : Part → Part) → Stored m i f n → Stored n i (G (n i)) r → Stored m i (G f) r
then G e d = record { here = d.here ∙ ap G e.here; there = λ j ne. d.there j ne ∙ e.there j ne }

-- another name for what is stored
pub named : {m n : ℕ → Part} {i : ℕ} {f g : Part} → f ≡ g → Stored m i f n → Stored m i g n
named q e = record { here = e.here ∙ q; there = e.there }

pub at : {m n : ℕ → Part} {i : ℕ} {f : Part} → Stored m i f n → (o : ℕ) → n i o ≡ f o
at e o = ap (λ (f : Part). f o) e.here

-- a length is sent, or was the last already
pub send_law : (f : Part) (x k : ℕ) → f last_at ≡ k → k ≢ x → upd (pushed f (label_most + (x - k))) last_at x ≡ length_sent f x
unfolding length_sent
send_law f x k e ne = rw (e, ne_eqb k x ne)

pub unsent_law : (f : Part) (x k : ℕ) → f last_at ≡ k → k ≡ x → f ≡ length_sent f x
unfolding length_sent
unsent_law f x k q e = rw (eq-eqb (f last_at) x (q ∙ e))

-- what sending leaves as it was
pub pushed_else : (f : Part) (w o : ℕ) → o < messages_at → o ≢ sent_count → pushed f w o ≡ f o
unfolding pushed
pushed_else f w o lt ne = rw (ne_eqb o sent_count ne, ne_eqb o (messages_at + f sent_count) (omega arith))

pub sent_else : (f : Part) (x o : ℕ) → o < messages_at → o ≢ sent_count → o ≢ last_at → length_sent f x o ≡ f o
unfolding length_sent
sent_else f x o lt n1 n4 = go (eqb (f last_at) x)
  where
    go : (b : Bool) → cond b f (upd (pushed f (label_most + (x - f last_at))) last_at x) o ≡ f o
    go true = refl
    go false = rw (ne_eqb o last_at n4) (pushed_else f (label_most + (x - f last_at)) o lt n1)

pub sent_count_lem : (f : Part) (x : ℕ) → length_sent f x sent_count ≤ f sent_count + 1
unfolding length_sent pushed
sent_count_lem f x = go (eqb (f last_at) x)
  where
    go : (b : Bool) → cond b f (upd (pushed f (label_most + (x - f last_at))) last_at x) sent_count ≤ f sent_count + 1
    go true = omega arith
    go false = omega arith

pub waited_else : (f : Part) (x h o : ℕ) → o < messages_at → o ≢ sent_count → o ≢ last_at → o ≢ waits_at → waited f x h o ≡ f o
unfolding waited
waited_else f x h o lt n1 n4 n5 = rw (ne_eqb o waits_at n5) (sent_else f x o lt n1 n4)

pub waited_head : (f : Part) (x h : ℕ) → waited f x h waits_at ≡ h
unfolding waited
waited_head f x h = refl

-- a message is taken, or there is none
module _ (f : Part) (h : ℕ) where
  pub none_waits : f (delivered_at + h) ≤ f (taken_at + h) → (took f h ≡ f) × (waiting f h ≡ None)
  none_waits le = (
    rw (le-leb (f (delivered_at + h)) (f (taken_at + h)) le),
    rw (le-leb (f (delivered_at + h)) (f (taken_at + h)) le),
  )

  pub one_waits : f (taken_at + h) < f (delivered_at + h)
      → (took f h ≡ raised f (taken_at + h)) × (waiting f h ≡ Some (f (taken_at + h)))
  one_waits lt = (
    rw (lt-leb (f (delivered_at + h)) (f (taken_at + h)) lt),
    rw (lt-leb (f (delivered_at + h)) (f (taken_at + h)) lt),
  )

  pub waits_at_place : (t : ℕ) → Some t ≡ waiting f h → (t ≡ f (taken_at + h)) × (f (taken_at + h) < f (delivered_at + h))
  waits_at_place t e = go (leb (f (delivered_at + h)) (f (taken_at + h))) refl e
    where
      go : (b : Bool) → leb (f (delivered_at + h)) (f (taken_at + h)) ≡ b → Some t ≡ cond b None (Some (f (taken_at + h)))
          → (t ≡ f (taken_at + h)) × (f (taken_at + h) < f (delivered_at + h))
      go true q z = cc
      go false q z = (cc, leb-false (f (delivered_at + h)) (f (taken_at + h)) q)

  pub taking_keeps : (o : ℕ) → o ≢ taken_at + h → took f h o ≡ f o
  unfolding raised
  taking_keeps o ne = go (leb (f (delivered_at + h)) (f (taken_at + h)))
    where
      go : (b : Bool) → cond b f (raised f (taken_at + h)) o ≡ f o
      go true = refl
      go false = rw (ne_eqb o (taken_at + h) ne)

-- so every other number stays
pub taking_reads : {m n : ℕ → Part} {i : ℕ} (h j o : ℕ) → Stored m i (took (m i) h) n → o ≢ taken_at + h → n j o ≡ m j o
taking_reads {m} {n} {i} h j o st ne = go (eqb j i) refl
  where
    go : (b : Bool) → eqb j i ≡ b → n j o ≡ m j o
    go true e =
        let q : j ≡ i = eqb-true j i e in
        ap (λ (k : ℕ). n k o) q ∙ at st o ∙ taking_keeps (m i) h o ne ∙ ap (λ (k : ℕ). m k o) (sym q)
    go false e = ap (λ (f : Part). f o) (st.there j (eqb-false j i e))
