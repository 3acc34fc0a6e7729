-- What was written is read back: the header, a record, all records.
use mathlib.Core.Path.{◌≡◌, refl, sym, ◌∙◌, ap, ap₂, subst}
use mathlib.Core.List.{List, [], ◌∷◌, ◌++◌, append_assoc}
use Prim.Native.Nat.{ℕ, suc, ◌+◌, ◌-◌, ◌^◌, ◌<◌}
use native.Mathlib.Omega.{arith}
use lib.ListN.{length, length-append}
use Rattle.bits.specs.Bits.{as_bits, field}
use Rattle.bits.proofs.AsBits.{length_as_bits}
use Rattle.bits.proofs.Field.{field_at_whole}
use Rattle.method.specs.Network.{IsNode}
use Rattle.method.specs.Rules.{Filled}
use Rattle.method.specs.Entries.{last_distance}
use Rattle.table.specs.File.{Form, header_bits, record_bits, body_bits, header_size, record_size, start_of}
use Rattle.table.specs.declared.Header.{Header}
use Rattle.table.specs.Reader.{walk, record_at, record_rows, header_at}
use Rattle.refusal.specs.Rows.{Clear}
use Rattle.table.specs.Laws.{Holds}
use Rattle.table.proofs.Sizes.{length_record, length_body, start_zero, start_suc}
use Rattle.table.specs.Passed.{Next, Passed}
use Rattle.table.proofs.Passed.{next_clear}
use Rattle.table.proofs.Walk.{stands_whole, walk_on}

-- four fields one after the other, each in as many bits as hold it
module _ (A X : List ℕ) (p w₁ w₂ w₃ w₄ v₁ v₂ v₃ v₄ : ℕ) (at : length A ≡ p) where
  abbrev B : List ℕ
  B = A ++ (as_bits w₁ v₁ ++ as_bits w₂ v₂ ++ as_bits w₃ v₃ ++ as_bits w₄ v₄ ++ X)

  pub four_back : v₁ < 2 ^ w₁ → v₂ < 2 ^ w₂ → v₃ < 2 ^ w₃ → v₄ < 2 ^ w₄
      → (field B p w₁ ≡ v₁) × (field B (p + w₁) w₂ ≡ v₂) × (field B (p + w₁ + w₂) w₃ ≡ v₃) × (field B (p + w₁ + w₂ + w₃) w₄ ≡ v₄)
  four_back g₁ g₂ g₃ g₄ =
      let e₁ : B ≡ A ++ (as_bits w₁ v₁ ++ (as_bits w₂ v₂ ++ as_bits w₃ v₃ ++ as_bits w₄ v₄ ++ X)) = simp append_assoc in
      let e₂ : B ≡ (A ++ as_bits w₁ v₁) ++ (as_bits w₂ v₂ ++ (as_bits w₃ v₃ ++ as_bits w₄ v₄ ++ X)) = simp append_assoc in
      let e₃ : B ≡ (A ++ as_bits w₁ v₁ ++ as_bits w₂ v₂) ++ (as_bits w₃ v₃ ++ (as_bits w₄ v₄ ++ X)) = simp append_assoc in
      let e₄ : B ≡ (A ++ as_bits w₁ v₁ ++ as_bits w₂ v₂ ++ as_bits w₃ v₃) ++ (as_bits w₄ v₄ ++ X) = simp append_assoc in (
        ap (λ (b : List ℕ). field b p w₁) e₁ ∙ field_at_whole A _ p w₁ v₁ at g₁,
        ap (λ (b : List ℕ). field b (p + w₁) w₂) e₂
            ∙ field_at_whole (A ++ as_bits w₁ v₁) _ (p + w₁) w₂ v₂ (simp (length-append, length_as_bits, at)) g₂,
        ap (λ (b : List ℕ). field b (p + w₁ + w₂) w₃) e₃
            ∙ field_at_whole (A ++ as_bits w₁ v₁ ++ as_bits w₂ v₂) _ (p + w₁ + w₂) w₃ v₃ (simp (length-append, length_as_bits, at)) g₃,
        ap (λ (b : List ℕ). field b (p + w₁ + w₂ + w₃) w₄) e₄
            ∙ field_at_whole (A ++ as_bits w₁ v₁ ++ as_bits w₂ v₂ ++ as_bits w₃ v₃) _ (p + w₁ + w₂ + w₃) w₄ v₄
            (simp (length-append, length_as_bits, at)) g₄,
      )

module _ (f : Form) (h : Header) (fits : Holds f h.n h.lmax) where
  -- a record after A is read back
  pub record_back : (seen : List Filled) (e : Filled) → Next h seen e → (A X : List ℕ) (p : ℕ) → length A ≡ p
      → (field (A ++ (record_bits f (last_distance seen) e ++ X)) p 1 ≡ 1)
      × (record_at f seen (A ++ (record_bits f (last_distance seen) e ++ X)) p ≡ e)
  unfolding record_bits record_at
  record_back seen e next A X p at =
      let s = next.sound in
      let by : ℕ = e.distance - last_distance seen in
      let b = four_back A X p 1 f.node f.node f.len 1 (e.target - 1) (e.hop - 1) by at (omega arith)
      (omega (arith, fits.nodes, s.target)) (omega (arith, fits.nodes, s.hop)) (omega (arith, fits.lengths, s.slowly)) in
      let t : e.target - 1 + 1 ≡ e.target = omega (arith, s.target) in
      let o : e.hop - 1 + 1 ≡ e.hop = omega (arith, s.hop) in
      let d : last_distance seen + by ≡ e.distance = omega (arith, s.rises) in
      (b.0, rw (b.1, b.2, b.3, t, o, d))

  -- all records are
  pub walk_all : (es : List Filled) → Passed h es → (t : ℕ) (X : List ℕ)
      → walk f h (length es + t) [] (body_bits f h es ++ X) (header_size f) ≡ walk f h t es (body_bits f h es ++ X) (start_of f (length es))
  unfolding body_bits
  walk_all [] p t X =
      let z : 0 + t ≡ t = omega arith in
      rw (z, start_zero f)
  walk_all (e ∷ es) ps t X =
      let A : List ℕ = body_bits f h es in
      let E : List ℕ = record_bits f (last_distance es) e in
      let p : ℕ = start_of f (length es) in
      let at : length A ≡ p = length_body f h es in
      let c : length (A ++ (E ++ X)) ≡ p + (record_size f + length X) = simp (length-append, at, length_record) in
      let b = record_back es e ps.0 A X p at in
      let n : suc (length es) + t ≡ length es + suc t = omega arith in
      rw (append_assoc A E X, n)
      (walk_all es ps.1 (suc t) (E ++ X)
      ∙ walk_on f h t es (A ++ (E ++ X)) p (stands_whole f (A ++ (E ++ X)) p b.0 (omega arith))
      (subst (λ (x : Filled). Clear (record_rows f h es x)) (sym b.1) (next_clear f h es e ps.0))
      ∙ ap₂ (λ (x : Filled) (q : ℕ). walk f h t (x ∷ es) (A ++ (E ++ X)) q) b.1 (sym (start_suc f (length es))))

  -- the header is
  pub header_back : IsNode h.n h.own → (es : List Filled) (X : List ℕ)
      → (field (body_bits f h es ++ X) 0 4 ≡ f.version) × (header_at f (body_bits f h es ++ X) ≡ h)
  unfolding body_bits header_bits header_at
  header_back own [] X =
      let b = four_back [] X 0 4 f.node f.node f.len f.version (h.own - 1) (h.n - 1) h.lmax refl fits.version
      (omega (arith, fits.nodes, own)) (omega (arith, fits.nodes, own)) fits.lengths.1 in
      let o : h.own - 1 + 1 ≡ h.own = omega (arith, own) in
      let n : h.n - 1 + 1 ≡ h.n = omega (arith, own) in
      (b.0, rw (b.1, b.2, b.3, o, n))
  header_back own (e ∷ es) X = rw (append_assoc (body_bits f h es) (record_bits f (last_distance es) e) X)
      (header_back own es (record_bits f (last_distance es) e ++ X))
