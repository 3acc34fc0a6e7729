-- What a loop over the records uses: the cursor's numbers are small, a step brings it nearer to the end, and there all records are taken.
use mathlib.Core.Path.{◌≡◌, sym, subst, ◌∙◌, ap}
use mathlib.Core.List.{List, [], ◌∷◌}
use Prim.Native.Nat.{ℕ, ◌-◌, ◌≤◌, ◌<◌}
use native.Mathlib.Omega.{arith}
use lib.ListN.{length, length-drop}
use Rattle.std.specs.Prelude.{Option, Some, None, Result, Ok, Err}
use Rattle.bits.specs.Bits.{bits_of}
use Rattle.method.specs.Rules
use Rattle.method.specs.Meant.{filled}
use Rattle.method.specs.declared.Filled.{Filled}
use Rattle.refusal.specs.declared.Refusal.{Refusal}
use Rattle.refusal.specs.Rows.{first}
use Rattle.table.specs.File.{one, start_of}
use Rattle.table.specs.declared.Header.{Header}
use Rattle.table.specs.declared.Ending.{Ending}
use Rattle.table.specs.Reader.{records_in, end_of, end_rows, body_rows, zero_bit}
use Rattle.table_header.specs.HasHeader.{HasHeader}
use Rattle.table_records.specs.Parts.{Concludes}
use Rattle.table_records.specs.Walk.{beginning, At, before, Steps}
use Rattle.table_records.specs.declared.Cursor.{Cursor}
use Rattle.table_records.specs.declared.Records.{Records}
use Rattle.table.specs.Passed.{Passed}
use Rattle.table_records.proofs.Walk.{at_begin, at_narrow, at_before, passed}

-- the numbers of a cursor are small
pub narrow : (s : List ℕ) {h : Header} {c : Cursor} {es : List Rules.Filled} → HasHeader s h → At one h (bits_of s) c es
    → (c.at ≤ 224) × (c.seen < 65536) × (c.distance ≤ 240)
narrow s d a = at_narrow d.own d.small.0 d.small.1 a

-- the records that it stands after are those taken
pub stays : {h : Header} {B : List ℕ} {c : Cursor} {es : List Rules.Filled} → At one h B c es → At one h B c (before h B c.at)
stays {h} {B} {c} a = subst (At one h B c) (sym (at_before a)) a

-- before the first record none is taken
pub begins : (h : Header) (B : List ℕ) {c : Cursor} → c ≡ beginning → before h B c.at ≡ []
begins h B e = rw e (at_before (at_begin h B))

-- how many records are not taken yet
abbrev pub left : Header → List ℕ → Cursor → ℕ
left h B c = length (records_in one h B) - length (before h B c.at)

few_before : (h : Header) (B : List ℕ) (p : ℕ) → length (before h B p) ≤ length (records_in one h B)
unfolding before
few_before h B p = simp length-drop (omega arith)

module _ (h : Header) (B : List ℕ) (c d : Cursor) (r : Result (Option Filled) Refusal) (s : Steps h B c d r) where
  pub one_more : (e : Filled) → r ≡ Ok (Some e) → before h B d.at ≡ filled e ∷ before h B c.at
  one_more e q = subst (Steps h B c d) q s

  nearer : (e : Filled) → r ≡ Ok (Some e) → left h B d < left h B c
  nearer e q = omega (arith, ap length (one_more e q), few_before h B d.at)

  -- a record that is taken passes
  pub passes : (e : Filled) → r ≡ Ok (Some e) → At one h B d (before h B d.at) → Passed h (filled e ∷ before h B c.at)
  passes e q a = subst (Passed h) (one_more e q) (passed a)

  pub refused : (e : Refusal) → r ≡ Err e → Steps h B c d (Err e)
  refused e q = subst (Steps h B c d) q s

  pub ended : r ≡ Ok None → Steps h B c d (Ok None)
  ended q = subst (Steps h B c d) q s

  -- where they end, what stands there tells how
  pub concludes : r ≡ Ok None → At one h B c (before h B c.at) → (x : Result Ending Refusal)
      → Concludes (first (end_rows B d.at)) (zero_bit B d.at) x
      → Concludes (first (body_rows one h B)) (zero_bit B (end_of one h B)) x
  concludes q a x k =
      let e = ended q in
      let end : end_of one h B ≡ d.at =
      ap (λ (xs : List Rules.Filled). start_of one (length xs)) (sym e.0) ∙ sym a.place ∙ ap (λ (z : Cursor). z.at) (sym e.2) in
      let first_is : first (body_rows one h B) ≡ first (end_rows B d.at) =
      e.1 ∙ ap (λ (z : Cursor). first (end_rows B z.at)) (sym e.2) in
      rw (end, first_is) k

-- a step brings the records nearer to their end
pub steps_nearer : (from to : Records) → (to.file.now ≡ from.file.now) × (to.header ≡ from.header) → (r : Result (Option Filled) Refusal)
    → Steps from.header (bits_of from.file.now) from.cursor to.cursor r → (e : Filled) → r ≡ Ok (Some e)
    → left to.header (bits_of to.file.now) to.cursor < left from.header (bits_of from.file.now) from.cursor
steps_nearer from to same r s e q = rw (same.0, same.1) (nearer from.header (bits_of from.file.now) from.cursor to.cursor r s e q)
