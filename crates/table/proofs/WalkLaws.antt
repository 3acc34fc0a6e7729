-- What the reader's walk over the records means: each is what stands at its own bit, and the walk ends only where none stands.
use mathlib.Core.Path.{◌≡◌, refl, sym, ap, subst, ◌∙◌}
use mathlib.Core.List.{List, [], ◌∷◌}
use mathlib.Core.Bool.{Bool, true, false, cond, ◌&&◌, true≢false}
use Prim.Native.Nat.{ℕ, zero, suc, ◌+◌, ◌≤◌}
use native.Mathlib.Omega.{arith}
use lib.ListN.{length}
use lib.Dec.{eqb}
use Rattle.bits.specs.Bits.{bits_of}
use Rattle.method.specs.Rules.{Filled}
use Rattle.refusal.specs.Rows.{Row, Clear, refused}
use Rattle.refusal.proofs.Rows.{number_clear, clear_both}
use Rattle.refusal.proofs.Tests.{both}
use Rattle.table.specs.File.{Form, header_size, record_size, start_of}
use Rattle.table.specs.declared.Header.{Header}
use Rattle.table.specs.Reader.{stands, passes, walk, records_in, record_at, record_rows}
use Rattle.table.specs.Reader.{records_rows, header_at, header_rows, end_of, end_rows}
use Rattle.table.specs.Reader.{next_rows, body_rows, file_rows}
use Rattle.table.specs.Laws.{AsRead, WalkLaws}
use Rattle.table.proofs.Sizes.{start_zero, start_suc}
use Rattle.table.proofs.Walk.{stands_short}

module _ (f : Form) (h : Header) (B : List ℕ) where
  -- records read so, and the record that is taken next, which stands after them
  walk_read : (t : ℕ) (seen : List Filled) (p : ℕ) → p ≡ start_of f (length seen) → AsRead f B seen → AsRead f B (walk f h t seen B p)
  unfolding walk
  walk_read zero seen p is s = s
  walk_read (suc t) seen p is s = go (passes f h seen B p) refl (λ r. walk_read t (record_at f seen B p ∷ seen) (p + record_size f) next r)
    where
      next : p + record_size f ≡ start_of f (suc (length seen))
      next = ap (λ (q : ℕ). q + record_size f) is ∙ sym (start_suc f (length seen))

      more : List Filled
      more = walk f h t (record_at f seen B p ∷ seen) B (p + record_size f)

      go : (b : Bool) → passes f h seen B p ≡ b → (AsRead f B (record_at f seen B p ∷ seen) → AsRead f B more)
          → AsRead f B (cond b more seen)
      go true e again =
          let whole = (both (stands f B p) _ e).0 in
          again (
            subst (λ (q : ℕ). stands f B q ≡ true) is whole,
            ap (λ (q : ℕ). record_at f seen B q) is,
            s,
          )
      go false e again = s

  -- each record takes a bit at least, so as many turns as bits are left are enough: after the last record none passes
  walk_ends : (t : ℕ) (seen : List Filled) (p : ℕ) → p ≡ start_of f (length seen) → length B ≤ p + t
      → passes f h (walk f h t seen B p) B (start_of f (length (walk f h t seen B p))) ≡ false
  unfolding walk
  walk_ends zero seen p is enough =
      ap (λ (b : Bool). b && eqb (refused (record_rows f h seen (record_at f seen B (start_of f (length seen))))) 0)
      (stands_short f B (start_of f (length seen)) (omega arith))
  walk_ends (suc t) seen p is enough =
      go (passes f h seen B p) refl (walk_ends t (record_at f seen B p ∷ seen) (p + record_size f) next (omega arith))
    where
      next : p + record_size f ≡ start_of f (suc (length seen))
      next = ap (λ (q : ℕ). q + record_size f) is ∙ sym (start_suc f (length seen))

      more : List Filled
      more = walk f h t (record_at f seen B p ∷ seen) B (p + record_size f)

      go : (b : Bool) → passes f h seen B p ≡ b → passes f h more B (start_of f (length more)) ≡ false
          → passes f h (cond b more seen) B (start_of f (length (cond b more seen))) ≡ false
      go true e again = again
      go false e again = subst (λ (q : ℕ). passes f h seen B q ≡ false) is e

  taken_ends : passes f h (records_in f h B) B (end_of f h B) ≡ false
  unfolding records_in
  taken_ends = walk_ends (length B) [] (header_size f) (sym (start_zero f)) (omega arith)

  -- a record that stands there is refused, and its row holds
  next_none : Clear (next_rows f h (records_in f h B) B (end_of f h B)) → stands f B (end_of f h B) ≡ false
  next_none = go (stands f B (end_of f h B)) refl
    where
      rows : List Row
      rows = record_rows f h (records_in f h B) (record_at f (records_in f h B) B (end_of f h B))

      go : (b : Bool) → stands f B (end_of f h B) ≡ b → Clear (cond b rows (end_rows B (end_of f h B))) → b ≡ false
      go true e c =
          let p : passes f h (records_in f h B) B (end_of f h B) ≡ true = rw (e, number_clear rows c) in
          absurd (true≢false (sym p ∙ taken_ends))
      go false e c = refl

module _ (f : Form) where
  all_read : (h : Header) (B : List ℕ) → AsRead f B (records_in f h B)
  unfolding records_in
  all_read h B = walk_read f h B (length B) [] (header_size f) (sym (start_zero f)) tt

  none_left : (s : List ℕ) → Clear (file_rows f s) → stands f (bits_of s) (end_of f (header_at f (bits_of s)) (bits_of s)) ≡ false
  unfolding file_rows body_rows
  none_left s c =
      let h = header_at f (bits_of s) in
      let B = bits_of s in
      let body = (clear_both (header_rows f h s) (body_rows f h B) c).1 in
      next_none f h B (clear_both (records_rows f h (records_in f h B)) (next_rows f h (records_in f h B) B (end_of f h B)) body).1

  pub walk_laws : WalkLaws f
  walk_laws = record { as_read = all_read; all_taken = none_left }
