-- All entries stored in a room, one after the other, are the entries of the definition.
use mathlib.Core.Path.{◌≡◌, refl, sym, ◌∙◌, ap}
use mathlib.Core.Logic.{◌≢◌}
use mathlib.Core.List.{List, [], ◌∷◌, ◌++◌}
use mathlib.Core.Bool.{Bool, true, false, cond}
use mathlib.Core.Option.{none, some}
use Prim.Native.Nat.{ℕ, zero, suc, ◌+◌, ◌-◌, ◌*◌, ◌≤◌}
use native.Mathlib.Omega.{arith}
use lib.Dec.{eqb, ltb}
use lib.ListN.{length, set, drop, length-append, length-drop}
use lib.Seq.{sets-eq, take_at, set-set, set_comm, drop-append-add, drop-drop}
use borrow.Author.Tests.{ne_eqb, eqb-true, eqb-false, ltb-false}
use Rattle.method.specs.Network.{IsNode}
use Rattle.method.specs.Rules.{Filled, Phase}
use Rattle.method.specs.Entries.{Entry, known, find, said}
use Rattle.method.specs.Marks.{distance_of, hop_of}
use Rattle.refusal.specs.Rows.{◌when◌, first, answer}
use Rattle.table.specs.declared.Header.{Header}
use Rattle.table.specs.Reader.{phase_of, entry_in}
use Rattle.method.specs.Marks.{entry_numbers}
use Rattle.call.specs.Files.{outcome, room_after}
use Rattle.method.proofs.EntryNumbers.{length_numbers}
use Rattle.table_reader.specs.Listing.{with_entry, with_absent, with_records, all_outcome, all_room}
use Rattle.table.specs.Passed.{Passed}

-- the room with the entries that g gives for 1 to k
abbrev with_table : (ℕ → Entry) → ℕ → List ℕ → List ℕ
with_table g zero room = room
with_table g (suc k) room = with_entry (with_table g k room) (suc k) (distance_of (g (suc k))) (hop_of (g (suc k)))

-- after a new front all is as it was
drop_past : (F B : List ℕ) (p q : ℕ) → length F ≡ p → p ≤ q → drop q (F ++ drop p B) ≡ drop q B
drop_past F B p q l h =
    let e : length F + (q - p) ≡ q = omega arith in
    let d : p + (q - p) ≡ q = omega arith in
    rw (e, drop-drop (q - p) p B, d) at (drop-append-add F (drop p B) (q - p))

-- as numbers, with the room after them
table_numbers : (g : ℕ → Entry) (n : ℕ) (room : List ℕ) → 2 * n ≤ length room → with_table g n room ≡ entry_numbers g n ++ drop (2 * n) room
table_numbers g zero room l = refl
table_numbers g (suc n) room l =
    let A : List ℕ = entry_numbers g n in
    let k : ℕ = 2 * n in
    let at : 2 * (suc n - 1) ≡ k = omega arith in
    let next : 2 * suc n ≡ k + 2 = omega arith in
    let m : length A ≡ k = length_numbers g n in
    let fit : k + 2 ≤ length (A ++ drop k room) = simp (length-append, length-drop) (omega arith) in
    rw (
      at,
      table_numbers g n room (omega arith),
      sets-eq (distance_of (g (suc n)) ∷ hop_of (g (suc n)) ∷ []) (A ++ drop k room) k fit,
      take_at A (drop k room) k m,
      drop_past A room k (k + 2) m (omega arith),
      next,
    )

-- another entry for y

abbrev other : (ℕ → Entry) → ℕ → Entry → ℕ → Entry
other g y x k = cond (eqb k y) x (g k)

table_same : (g f : ℕ → Entry) (n : ℕ) (room : List ℕ) → ((y : ℕ) → y ≤ n → g y ≡ f y) → with_table g n room ≡ with_table f n room
table_same g f zero room e = refl
table_same g f (suc n) room e = rw (table_same g f n room (λ y l. e y (omega arith)), e (suc n) (omega arith))

-- two entries for different targets change places; of two for one target the later stays

entries_apart : (room : List ℕ) (y z d h a b : ℕ) → 1 ≤ y → 1 ≤ z → y ≢ z
    → with_entry (with_entry room z a b) y d h ≡ with_entry (with_entry room y d h) z a b
entries_apart room y z d h a b gy gz n =
    let i : ℕ = 2 * (z - 1) in
    let j : ℕ = 2 * (y - 1) in
    rw (
      set_comm (set room i a) (suc i) j b d (λ e. n (omega arith)),
      set_comm (set (set room i a) j d) (suc i) (suc j) b h (λ e. n (omega arith)),
      set_comm room i j a d (λ e. n (omega arith)),
      set_comm (set room j d) i (suc j) a h (λ e. n (omega arith)),
    )

entry_again : (room : List ℕ) (y d h a b : ℕ) → with_entry (with_entry room y a b) y d h ≡ with_entry room y d h
entry_again room y d h a b =
    let i : ℕ = 2 * (y - 1) in
    rw (set_comm (set room i a) (suc i) i b d (λ e. omega arith), set-set room i a d, set-set (set room i d) (suc i) b h)

table_other : (g : ℕ → Entry) (y : ℕ) (x : Entry) (n : ℕ) (room : List ℕ) → 1 ≤ y → y ≤ n
    → with_entry (with_table g n room) y (distance_of x) (hop_of x) ≡ with_table (other g y x) n room
table_other g y x zero room a b = absurd (omega arith)
table_other g y x (suc n) room a b = go (eqb (suc n) y) refl (λ l. table_other g y x n room a l)
  where
    go : (t : Bool) → eqb (suc n) y ≡ t
        → (y ≤ n → with_entry (with_table g n room) y (distance_of x) (hop_of x) ≡ with_table (other g y x) n room)
        → with_entry (with_entry (with_table g n room) (suc n) (distance_of (g (suc n))) (hop_of (g (suc n)))) y (distance_of x) (hop_of x)
        ≡ with_entry (with_table (other g y x) n room) (suc n) (distance_of (cond t x (g (suc n)))) (hop_of (cond t x (g (suc n))))
    go true t ih =
        let e : y ≡ suc n = sym (eqb-true (suc n) y t) in
        let s : with_table g n room ≡ with_table (other g y x) n room =
        table_same g (other g y x) n room (λ k l. rw (ne_eqb k y (omega arith))) in
        rw (e, entry_again (with_table g n room) (suc n) (distance_of x) (hop_of x) (distance_of (g (suc n))) (hop_of (g (suc n))))
        (ap (λ (r : List ℕ). with_entry r (suc n) (distance_of x) (hop_of x)) (rw e at s))
    go false t ih =
        let e : suc n ≢ y = eqb-false (suc n) y t in
        entries_apart (with_table g n room) y (suc n) (distance_of x) (hop_of x) (distance_of (g (suc n))) (hop_of (g (suc n))) a
        (omega arith)
        (λ q. e (sym q))
        ∙ ap (λ (r : List ℕ). with_entry r (suc n) (distance_of (g (suc n))) (hop_of (g (suc n)))) (ih (omega arith))

-- the code's steps: a mark for each, the records, the node itself

absent_table : (x : Entry) (n : ℕ) (room : List ℕ) → with_absent x n room ≡ with_table (λ y. x) n room
unfolding with_absent
absent_table x zero room = refl
absent_table x (suc n) room = rw (absent_table x n room)

records_table : (h : Header) (ph : Phase) (room : List ℕ) (es : List Filled) → Passed h es
    → with_records es (with_table (λ y. said ph none) h.n room) ≡ with_table (λ y. said ph (find y es)) h.n room
unfolding with_records
records_table h ph room [] p = refl
records_table h ph room (e ∷ es) p =
    let g : ℕ → Entry = λ y. said ph (find y es) in
    ap (λ (r : List ℕ). with_entry r e.target e.distance e.hop) (records_table h ph room es p.1)
    ∙ table_other g e.target (known e.distance e.hop) h.n room p.0.sound.target.0 p.0.sound.target.1
    ∙ table_same (other g e.target (known e.distance e.hop)) (λ y. said ph (find y (e ∷ es))) h.n room
    (λ y l. same y (eqb y e.target))
  where
    same : (y : ℕ) (b : Bool) → cond b (known e.distance e.hop) (said ph (find y es)) ≡ said ph (cond b (some e) (find y es))
    same y true = refl
    same y false = refl

module _ (h : Header) (own : IsNode h.n h.own) (es : List Filled) (p : Passed h es) (m : Bool) (room : List ℕ) where
  -- what a missing record says
  abbrev absent : Entry
  absent = said (phase_of m) none

  abbrev numbers : List ℕ
  numbers = entry_numbers (entry_in h es m) h.n

  all_stored : 2 * h.n ≤ length room
      → with_entry (with_records es (with_absent absent h.n room)) h.own 0 0 ≡ numbers ++ drop (2 * h.n) room
  all_stored l =
      ap (λ (r : List ℕ). with_entry (with_records es r) h.own 0 0) (absent_table absent h.n room)
      ∙ ap (λ (r : List ℕ). with_entry r h.own 0 0) (records_table h (phase_of m) room es p)
      ∙ table_other (λ y. said (phase_of m) (find y es)) h.own (known 0 0) h.n room own.0 own.1
      ∙ table_numbers (entry_in h es m) h.n room l

  pub all_outcome_lem : all_outcome h.n room ≡ outcome numbers room
  all_outcome_lem = rw (length_numbers (entry_in h es m) h.n)

  pub all_room_lem : all_room h.own h.n absent es room ≡ room_after numbers room
  all_room_lem = rw (length_numbers (entry_in h es m) h.n) (go (ltb (length room) (2 * h.n)) refl)
    where
      go : (b : Bool) → ltb (length room) (2 * h.n) ≡ b
          → answer (first (13 when b ∷ [])) (λ r. room) (with_entry (with_records es (with_absent absent h.n room)) h.own 0 0)
          ≡ answer (first (13 when b ∷ [])) (λ r. room) (numbers ++ drop (2 * h.n) room)
      go true t = refl
      go false t = all_stored (ltb-false (length room) (2 * h.n) t)
