-- A record of version 1 as the number that its 13 bits make, and what a step over it promises.
use mathlib.Core.Path.{◌≡◌, refl, sym, ◌∙◌, ap}
use mathlib.Core.List.{List, ◌∷◌}
use Rattle.std.specs.Prelude.{Option, Some, None}
use mathlib.Core.Bool.{Bool, true, false, cond}
use Prim.Native.Nat.{ℕ, ◌+◌, ◌-◌, ◌*◌, ◌/◌, ◌%◌, ◌^◌, ◌≤◌, ◌<◌}
use native.Mathlib.Omega.{arith}
use lib.ListN.{length}
use lib.Dec.{eqb, ltb}
use borrow.Author.Tests.{ltb-true, ltb-false}
use Rattle.bits.specs.Bits.{bits_of, field}
use Rattle.bits.proofs.Bytes.{field_below}
use Rattle.bits.proofs.Field.{field_of_two}
use Rattle.method.specs.Rules.{Filled}
use Rattle.method.specs.Entries.{last_distance}
use Rattle.table.specs.File.{one}
use Rattle.table.specs.declared.Header.{Header}
use Rattle.table.specs.Reader.{stands, record_at, record_rows, records_in, body_rows}
use Rattle.refusal.specs.Rows.{Refusal, refusal, first}
use Rattle.table.proofs.Walk.{stands_whole, stands_zero, stands_short, stands_fits}
use Rattle.table_records.specs.Parts.{bits_standing, FirstWrong, field_place, refusal_at}
use Rattle.table_records.specs.Walk.{is_in, At}
use Rattle.table_records.specs.declared.Cursor.{Cursor}
use Rattle.table_records.specs.declared.Field.{Field}
use Rattle.table_records.proofs.Walk.{at_wrong, at_next, rows_first}

module _ (s : List ℕ) (p : ℕ) where
  abbrev B : List ℕ
  B = bits_of s

  -- 13 bits are four fields
  four_fields : p + 13 ≤ length B
      → field B p 13 ≡ ((field B p 1 * 16 + field B (p + 1) 4) * 16 + field B (p + 5) 4) * 16 + field B (p + 9) 4
  four_fields g =
      let a : p + 1 + 4 ≡ p + 5 = omega arith in
      let b : p + 5 + 4 ≡ p + 9 = omega arith in
      let u = field_of_two B p 1 12 (omega arith) in
      let v = field_of_two B (p + 1) 4 8 (omega arith) in
      let w : field B (p + 5) 8 ≡ field B (p + 5) 4 * 2 ^ 4 + field B (p + 9) 4 = rw b at (field_of_two B (p + 5) 4 4 (omega arith)) in
      omega (arith, u, rw a at v, w)

  record_of : (x before : ℕ) (seen : List Filled) → p + 13 ≤ length B → x ≡ field B p 13 → before ≡ last_distance seen
      → record_at one seen B p ≡ record { target = x / 256 % 16 + 1; distance = before + x % 16; hop = x / 16 % 16 + 1 }
  unfolding record_at
  record_of x before seen l e q =
      let f = four_fields l in
      let f₁ = field_below s p 1 in
      let f₂ = field_below s (p + 1) 4 in
      let f₃ = field_below s (p + 5) 4 in
      let f₄ = field_below s (p + 9) 4 in
      let a : p + 1 + 4 ≡ p + 5 = omega arith in
      let b : p + 1 + 4 + 4 ≡ p + 9 = omega arith in
      let u : field B (p + 1) 4 ≡ x / 256 % 16 = omega arith in
      let v : field B (p + 5) 4 ≡ x / 16 % 16 = omega arith in
      let w : field B (p + 9) 4 ≡ x % 16 = omega arith in
      rw (b, a, u, v, w, q)

  -- from 4096 on the number is a record, below it is none
  pub there : (x : ℕ) → x ≡ bits_standing B p → 4096 ≤ x → (stands one B p ≡ true) × (x ≡ field B p 13)
  unfolding bits_standing
  there x e g = go (ltb (length B) (p + 13)) refl e
    where
      go : (b : Bool) → ltb (length B) (p + 13) ≡ b → x ≡ cond b 0 (field B p 13) → (stands one B p ≡ true) × (x ≡ field B p 13)
      go true t q = absurd (omega arith)
      go false t q =
          let l : p + 13 ≤ length B = ltb-false (length B) (p + 13) t in
          let f₁ = field_below s p 1 in
          let f₂ = field_below s (p + 1) 4 in
          let f₃ = field_below s (p + 5) 4 in
          let f₄ = field_below s (p + 9) 4 in
          (stands_whole one B p (omega (arith, four_fields l)) l, q)

  pub not_there : (x : ℕ) → x ≡ bits_standing B p → x < 4096 → stands one B p ≡ false
  unfolding bits_standing
  not_there x e g = go (ltb (length B) (p + 13)) refl e
    where
      go : (b : Bool) → ltb (length B) (p + 13) ≡ b → x ≡ cond b 0 (field B p 13) → stands one B p ≡ false
      go true t q = stands_short one B p (ltb-true (length B) (p + 13) t)
      go false t q = stands_zero one B p (omega (arith, four_fields (ltb-false (length B) (p + 13) t)))

-- a step over the record whose number is x; field k is the first that the code finds wrong in it
module _ (s : List ℕ) {h : Header} {c : Cursor} {es : List Filled} (a : At one h (bits_of s) c es) (x : ℕ) (k : Option Field)
    (ex : x ≡ bits_standing (bits_of s) c.at) (l : 4096 ≤ x)
    (w : FirstWrong one h (is_in c.seen (x / 256 % 16 + 1)) (x / 256 % 16 + 1) (x / 16 % 16 + 1) (x % 16)
    (eqb (c.distance + x % 16) 0) k) where
  stood : stands one (bits_of s) c.at ≡ true
  stood = (there s c.at x ex l).0

  record_is : record_at one es (bits_of s) c.at ≡ record {
    target = x / 256 % 16 + 1;
    distance = c.distance + x % 16;
    hop = x / 16 % 16 + 1;
  }
  record_is = record_of s c.at x c.distance es (stands_fits one (bits_of s) c.at stood) (there s c.at x ex l).1 a.distance

  told : first (record_rows one h es (record_at one es (bits_of s) c.at)) ≡ refusal_at one c.at k
  told = rows_first a _ _ _ k (omega arith) record_is w

  pub met_wrong : (wrong : Field) → k ≡ Some wrong
      → (records_in one h (bits_of s) ≡ es) × (first (body_rows one h (bits_of s)) ≡ refusal 17 (field_place one c.at wrong))
      × (stands one (bits_of s) c.at ≡ true)
  met_wrong wrong q =
      let is : first (record_rows one h es (record_at one es (bits_of s) c.at)) ≡ refusal 17 (field_place one c.at wrong) =
      told ∙ ap (refusal_at one c.at) q in
      let e = at_wrong a stood (λ z. omega (arith, sym z ∙ ap (λ (r : Refusal). r.number) is)) in
      (e.0, e.1 ∙ rw stood is, stood)

  pub met_record : k ≡ None → (v : ℕ) → v ≡ 2 ^ (x / 256 % 16 + 1 - 1)
      → At one h (bits_of s) (record { at = c.at + 13; seen = c.seen + v; distance = c.distance + x % 16 })
      (record { target = x / 256 % 16 + 1; distance = c.distance + x % 16; hop = x / 16 % 16 + 1 } ∷ es)
  met_record q v ev =
      rw ev (at_next a stood _ _ _ record_is (ap (λ (r : Refusal). r.number) (told ∙ ap (refusal_at one c.at) q)))
