-- The code of rules 3 and 4 makes of a part what specs/Rules says.
use mathlib.Core.Path.{◌≡◌, refl, sym, ap, ◌∙◌}
use mathlib.Core.Logic.{◌≢◌}
use mathlib.Core.Bool.{Bool, true, false, cond}
use Prim.Native.Nat.{ℕ, ◌+◌, ◌-◌, ◌≤◌, ◌<◌}
use native.Mathlib.Omega.{arith}
use lib.Dec.{leb}
use borrow.Author.Tests.{leb-true, leb-false, le-leb, lt-leb, eq-eqb, ne_eqb}
use Rattle.std.specs.Prelude.{Some, None}
use Rattle.run_cells.specs.Part.{Part, label_most, sent_count, entry_count, last_at, delivered_at, taken_at, sums_at, marks_at}
use Rattle.run_cells.specs.Part.{no_sum}
use Rattle.run_cells.specs.Stores.{upd, Rises, Stored, raised, waited, filled, placed, arrived, took}
use Rattle.run_cells.proofs.Stored.{named, then, none_waits, one_waits}
use Rattle.run_cells.proofs.Meaning.{skip}
use Rattle.run_node.specs.declared.Heard.{Heard}
use Rattle.run_node.specs.declared.Heard.TheVariants.{Nothing, Label, Length}
use Rattle.run_node.specs.Rules.{hears, heard_of, next_of, takes, took_of, Room, Able}

-- a message heard
module _ (f f' : Part) (h x w : ℕ) where
  abbrev Hears : Heard → Type 0
  Hears r = (f' ≡ hears f h x w) × (r ≡ heard_of w)

  pub hears_end : w ≡ 0 → f' ≡ upd f (sums_at + h) no_sum → Hears Length
  unfolding hears
  hears_end e d = (rw (eq-eqb w 0 e) d, rw (eq-eqb w 0 e))

  pub hears_length : label_most < w → f' ≡ upd f (sums_at + h) (x + (w - label_most)) → Hears Length
  unfolding hears
  hears_length lt d = (
    rw (ne_eqb w 0 (omega arith), lt-leb w label_most lt) d,
    rw (ne_eqb w 0 (omega arith), lt-leb w label_most lt),
  )

  module _ (pos : w ≢ 0) (le : w ≤ label_most) where
    pub hears_known : f (marks_at + w) ≢ 0 → f' ≡ f → Hears Label
    unfolding hears
    hears_known ne d = (
      rw (ne_eqb w 0 pos, le-leb w 16 le, ne_eqb (f (marks_at + w)) 0 ne) d,
      rw (ne_eqb w 0 pos, le-leb w 16 le),
    )

    pub hears_new : f (marks_at + w) ≡ 0 → f' ≡ filled f h x w → Hears Label
    unfolding hears
    hears_new e d = (
      rw (ne_eqb w 0 pos, le-leb w 16 le, eq-eqb (f (marks_at + w)) 0 e) d,
      rw (ne_eqb w 0 pos, le-leb w 16 le),
    )

-- a message taken, or none
module _ (m : ℕ → Part) (i h : ℕ) where
  nothing_there : None ≡ arrived m i h → m i (delivered_at + h) ≤ m i (taken_at + h)
  nothing_there e = go (leb (m i (delivered_at + h)) (m i (taken_at + h))) refl e
    where
      go : (b : Bool) → leb (m i (delivered_at + h)) (m i (taken_at + h)) ≡ b
          → None ≡ placed (m h) (cond b None (Some (m i (taken_at + h)))) → m i (delivered_at + h) ≤ m i (taken_at + h)
      go true q z = leb-true (m i (delivered_at + h)) (m i (taken_at + h)) q
      go false q z = cc

  pub one_there : (w : ℕ) → Some w ≡ arrived m i h → (m i (taken_at + h) < m i (delivered_at + h)) × (w ≡ next_of m i h)
  one_there w e = go (leb (m i (delivered_at + h)) (m i (taken_at + h))) refl e
    where
      go : (b : Bool) → leb (m i (delivered_at + h)) (m i (taken_at + h)) ≡ b
          → Some w ≡ placed (m h) (cond b None (Some (m i (taken_at + h))))
          → (m i (taken_at + h) < m i (delivered_at + h)) × (w ≡ next_of m i h)
      go true q z = cc
      go false q z = (leb-false (m i (delivered_at + h)) (m i (taken_at + h)) q, cc)

  module _ (x : ℕ) (r : ℕ → Part) (st : Stored m i (took (m i) h) r) where
    abbrev Takes : (ℕ → Part) → Heard → Type 0
    Takes n a = Stored m i (takes m i h x) n × (a ≡ took_of m i h)

    pub takes_nothing : (n : ℕ → Part) → None ≡ arrived m i h → Stored r i (waited (r i) x h) n → Takes n Nothing
    unfolding takes
    takes_nothing n none e =
        let le = nothing_there none in (
          named (rw (le-leb (m i (delivered_at + h)) (m i (taken_at + h)) le))
              (then (λ f. waited f x h) (named (none_waits (m i) h le).0 st) e),
          rw (le-leb (m i (delivered_at + h)) (m i (taken_at + h)) le),
        )

    pub same_without : None ≡ arrived m i h → r i ≡ m i
    same_without none = st.here ∙ (none_waits (m i) h (nothing_there none)).0

    module _ (w : ℕ) (some : Some w ≡ arrived m i h) where
      lt : m i (taken_at + h) < m i (delivered_at + h)
      lt = (one_there w some).0

      pub next_is : w ≡ next_of m i h
      next_is = (one_there w some).1

      taken : Stored m i (raised (m i) (taken_at + h)) r
      taken = named (one_waits (m i) h lt).0 st

      pub takes_one : (n : ℕ → Part) (a : Heard) → Stored r i (hears (r i) h x w) n × (a ≡ heard_of w) → Takes n a
      unfolding takes
      takes_one n a b = (
        named (rw (lt-leb (m i (delivered_at + h)) (m i (taken_at + h)) lt) (ap (hears (raised (m i) (taken_at + h)) h x) next_is))
            (then (λ f. hears f h x w) taken b.0),
        b.1 ∙ rw (lt-leb (m i (delivered_at + h)) (m i (taken_at + h)) lt) (ap heard_of next_is),
      )

      -- taking one leaves what hearing asks for
      other : (o : ℕ) → o ≢ taken_at + h → r i o ≡ m i o
      unfolding raised
      other o ne = ap (λ (f : Part). f o) taken.here ∙ skip (m i) (taken_at + h) (m i (taken_at + h) + 1) o ne

      pub room_after_lem : Able m i h x → Room (r i) w
      room_after_lem ab pos le z =
          let q : m i (marks_at + next_of m i h) ≡ 0 = ap (λ (k : ℕ). m i (marks_at + k)) (sym next_is)
          ∙ sym (other (marks_at + w) (omega (arith, ab.head.1))) ∙ z in
          let b = ab.room lt (omega (arith, next_is)) (omega (arith, next_is)) q in
          omega (arith, b, other sent_count (omega arith), other entry_count (omega arith))

      pub rises_after : Able m i h x → Rises (r i) x
      rises_after ab =
          let same : r i last_at ≡ m i last_at = other last_at (omega arith) in
          let b = ab.rises in
          record { least = omega (arith, b.least); most = omega (arith, b.most); short = b.short }

      pub sum_after : Able m i h x → x + (w - label_most) ≤ no_sum
      sum_after ab = omega (arith, ab.sum lt, next_is)
