-- `Steps` leaves one answer for each cursor, and a refusal that it tells is that of the record there: 17, and never the end's 18.
use mathlib.Core.Path.{◌≡◌, sym, ◌∙◌, ap}
use mathlib.Core.List.{List, [], ◌∷◌}
use mathlib.Core.Bool.{Bool, true, false, cond}
use Prim.Native.Nat.{ℕ, ◌-◌, ◌/◌}
use native.Mathlib.Omega.{arith}
use lib.ListN.{length, length-drop, drop}
use Rattle.std.specs.Prelude.{⊤, Option, Some, None, Result, Ok, Err}
use Rattle.method.specs.Rules
use Rattle.method.specs.Meant.{filled}
use Rattle.method.specs.declared.Filled.{Filled}
use Rattle.refusal.specs.declared.Refusal.{Refusal}
use Rattle.refusal.specs.Rows.{first}
use Rattle.refusal.specs.Told.{told}
use Rattle.table.specs.File.{one, start_of}
use Rattle.table.specs.declared.Header.{Header}
use Rattle.table.specs.Reader.{stands, record_at, record_rows, records_in, next_rows}
use Rattle.table.proofs.Walk.{body_first}
use Rattle.table_records.specs.Walk.{At, before, Steps}
use Rattle.table_records.specs.declared.Cursor.{Cursor}

abbrev head_or : Rules.Filled → List Rules.Filled → Rules.Filled
head_or x [] = x
head_or x (e ∷ es) = e

module _ (h : Header) (B : List ℕ) (c : Cursor) where
  abbrev T : List Rules.Filled
  T = before h B c.at

  abbrev R : List Rules.Filled
  R = records_in one h B

  -- the same answer: what it tells is the same
  abbrev Alike : Result (Option Filled) Refusal → Result (Option Filled) Refusal → Type 0
  Alike (Ok (Some e)) (Ok (Some x)) = filled e ≡ filled x
  Alike (Ok None) (Ok None) = ⊤
  Alike (Err r) (Err q) = told r ≡ told q
  Alike r q = ⊥

  -- more records are not taken than there are
  too_many : (p : ℕ) (e : Rules.Filled) → T ≡ R → before h B p ≡ e ∷ T → ⊥
  unfolding before
  too_many p e all more =
      omega (
        arith,
        ap (λ (xs : List Rules.Filled). length xs) all,
        ap (λ (xs : List Rules.Filled). length xs) more,
        length-drop (length R - (p - 16) / 13) R,
      )

  -- the record after those taken is one
  same : (p q : ℕ) (e y : Rules.Filled) → before h B p ≡ e ∷ T → before h B q ≡ y ∷ T → e ≡ y
  unfolding before
  same p q e y s z =
      let k : length R - (p - 16) / 13 ≡ length R - (q - 16) / 13 = omega (
        arith,
        ap (λ (xs : List Rules.Filled). length xs) s,
        ap (λ (xs : List Rules.Filled). length xs) z,
        length-drop (length R - (p - 16) / 13) R,
        length-drop (length R - (q - 16) / 13) R,
      ) in
      let e_is : e ∷ T ≡ y ∷ T = sym s ∙ ap (λ (n : ℕ). drop n R) k ∙ z in
      ap (λ (xs : List Rules.Filled). head_or e xs) e_is

  both : stands one B c.at ≡ false → stands one B c.at ≡ true → ⊥
  both s z = omega (arith, ap {B = ℕ} (λ (b : Bool). cond b 1 0) (sym s ∙ z))

  pub one_answer : (d x : Cursor) (r q : Result (Option Filled) Refusal) → Steps h B c d r → Steps h B c x q → Alike r q
  one_answer d x (Ok (Some e)) (Ok (Some y)) s z = same d.at x.at (filled e) (filled y) s z
  one_answer d x (Ok (Some e)) (Ok None) s z = absurd (too_many d.at (filled e) z.0 s)
  one_answer d x (Ok (Some e)) (Err q) s z = absurd (too_many d.at (filled e) z.0 s)
  one_answer d x (Ok None) (Ok (Some y)) s z = absurd (too_many x.at (filled y) s.0 z)
  one_answer d x (Ok None) (Ok None) s z = tt
  one_answer d x (Ok None) (Err q) s z = absurd (both s.3 z.3)
  one_answer d x (Err r) (Ok (Some y)) s z = absurd (too_many x.at (filled y) s.0 z)
  one_answer d x (Err r) (Ok None) s z = absurd (both z.3 s.3)
  one_answer d x (Err r) (Err q) s z = s.1 ∙ sym z.1

  pub refused_here : (d : Cursor) (r : Refusal) → At one h B c T → Steps h B c d (Err r)
      → told r ≡ first (record_rows one h T (record_at one T B c.at))
  refused_here d r a s =
      s.1 ∙ body_first one h B
      ∙ ap (λ (xs : List Rules.Filled). first (next_rows one h xs B (start_of one (length xs)))) (sym s.0)
      ∙ ap (λ (p : ℕ). first (next_rows one h T B p)) (sym a.place)
      ∙ rw s.3
