-- The two parts of an input are the network's bytes and the steps'.
use mathlib.Core.Path.{◌≡◌, refl, sym, ap, ap₂, ◌∙◌}
use mathlib.Core.Bool.{Bool, true, false}
use mathlib.Core.List.{List}
use Prim.Native.Nat.{ℕ, ◌≤◌, ◌<◌, min}
use native.Mathlib.Omega.{arith}
use lib.ListN.{length, get_or, take, drop, drop_of_length-le}
use lib.Seq.{take_all, take-length, drop-length}
use lib.Dec.{ltb}
use borrow.Author.Tests.{ltb-true, ltb-false}
use Rattle.bits.specs.Bits.{Bytes}
use Rattle.bits.proofs.ThreeBytes.{field_in_byte}
use Rattle.network.specs.Bytes.{count, size}
use Rattle.network.specs.Checked.{from_bytes}
use Rattle.house.specs.House.{asked, network_bytes, step_bytes, text_for, text}

-- a part that would end after the list ends with it
to_end : (part : ℕ → List ℕ) (k end : ℕ) → (end < k → part end ≡ part k) → part (min k end) ≡ part k
to_end part k end same = go (ltb end k) refl
  where
    go : (b : Bool) → ltb end k ≡ b → part (min k end) ≡ part k
    go true e = let lt = ltb-true end k e in let m : min k end ≡ end = omega arith in ap part m ∙ same lt
    go false e = let le = ltb-false end k e in let m : min k end ≡ k = omega arith in ap part m

-- the input, split at its network's end
module _ (input : List ℕ) (end : ℕ) (is : end ≡ min (asked input) (length input)) {front back : List ℕ} (front_is : front ≡ take end input)
    (back_is : back ≡ drop end input) where
  pub first_part : front ≡ network_bytes input
  first_part =
      front_is
      ∙ ap (λ (n : ℕ). take n input) is
      ∙ to_end (λ (n : ℕ). take n input) (asked input) (length input)
      (λ lt. take-length input ∙ sym (take_all (asked input) input (omega arith)))

  second_part : back ≡ step_bytes input
  second_part =
      back_is
      ∙ ap (λ (n : ℕ). drop n input) is
      ∙ to_end (λ (n : ℕ). drop n input) (asked input) (length input)
      (λ lt. drop-length input ∙ sym (drop_of_length-le input {i = asked input} (omega arith)))

  -- so the text of its parts is the input's
  pub parts_text : text_for (from_bytes front) back ≡ text input
  parts_text = ap₂ (λ (s bs : List ℕ). text_for (from_bytes s) bs) first_part second_part

-- the arc count is the third byte; an input without one ends before any network does
pub network_end_lem : (input : List ℕ) → Bytes input
    → min (size (get_or input 2 0)) (length input) ≡ min (size (count input)) (length input)
network_end_lem input bytes = go (ltb (length input) 3) refl
  where
    go : (b : Bool) → ltb (length input) 3 ≡ b → min (size (get_or input 2 0)) (length input) ≡ min (size (count input)) (length input)
    go true e = omega (arith, ltb-true (length input) 3 e)
    go false e =
        let le : 3 ≤ length input = ltb-false (length input) 3 e in
        let f = field_in_byte input 2 0 8 0 bytes (omega arith) (omega arith) in
        let e : get_or input 2 0 ≡ count input = omega (arith, f, bytes.each 2) in
        ap (λ (c : ℕ). min (size c) (length input)) e
