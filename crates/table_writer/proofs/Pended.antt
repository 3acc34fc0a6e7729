-- A writer on its way: bits are added, and whole bytes stored.
use mathlib.Core.Path.{◌≡◌, refl, sym, ◌∙◌, ap}
use mathlib.Core.List.{List, [], ◌∷◌, ◌++◌, append_assoc, append-nil}
use mathlib.Core.Bool.{Bool, true, false, cond}
use Prim.Native.Nat.{ℕ, suc, ◌+◌, ◌-◌, ◌*◌, ◌/◌, ◌%◌, ◌^◌, ◌≤◌, ◌<◌}
use native.Mathlib.Omega.{arith}
use lib.ListN.{length, set, take, drop, length-set}
use lib.Dec.{leb}
use lib.Pow.{mod-mod-pow}
use lib.Seq.{take-suc-set, drop-set-lt, drop-drop}
use borrow.Author.Tests.{leb-true, leb-false}
use Rattle.bits.specs.Bits.{as_bits, bits_of}
use Rattle.bits.proofs.AsBits.{as_bits_split, as_bits_mod, as_bits_join}
use Rattle.bits.proofs.Bytes.{bits_append}
use Rattle.table_writer.specs.Code.{flushed, Pending}

-- equal places, equal bits
pub pending_as : {before room : List ℕ} {k n x : ℕ} {F : List ℕ} (k' n' : ℕ) (G : List ℕ) → Pending before room k n x F → k ≡ k' → n ≡ n'
    → F ≡ G → Pending before room k' n' x G
pending_as k' n' G p ek en eF = record { bits = rw (← ek, ← en, ← eF) p.bits; rest = rw (← ek) p.rest }

pub pending_start : (room : List ℕ) (k : ℕ) → Pending room room k 0 0 (bits_of (take k room))
unfolding as_bits
pending_start room k = record { bits = append-nil (bits_of (take k room)); rest = refl }

module _ {before room : List ℕ} {k n x : ℕ} {F : List ℕ} where
  -- w bits more
  pub pending_more : (w v : ℕ) → v < 2 ^ w → Pending before room k n x F → Pending before room k (n + w) (x * 2 ^ w + v) (F ++ as_bits w v)
  pending_more w v g p =
      record {
        bits = rw (as_bits_join n w x v g)
            (sym (append_assoc (bits_of (take k room)) (as_bits n x) (as_bits w v)) ∙ ap (λ (l : List ℕ). l ++ as_bits w v) p.bits);
        rest = p.rest;
      }

  -- of less than a byte only the last byte of x is needed
  pub pending_last : n ≤ 8 → Pending before room k n x F → Pending before room k n (x % 256) F
  pending_last g p =
      let j : 8 - n + n ≡ 8 = omega arith in
      let m : x % 256 % 2 ^ n ≡ x % 2 ^ n = rw j at (mod-mod-pow x (8 - n) n) in
      record {
        bits = ap (λ (l : List ℕ). bits_of (take k room) ++ l) (sym (as_bits_mod n (x % 256)) ∙ ap (as_bits n) m ∙ as_bits_mod n x)
            ∙ p.bits;
        rest = p.rest;
      }

  -- one byte is stored
  pending_byte : (m : ℕ) → n ≡ 8 + m → k < length room → Pending before room k n x F
      → Pending before (set room k (x / 2 ^ m % 256)) (k + 1) m x F
  unfolding bits_of
  pending_byte m e g p =
      let y : ℕ = x / 2 ^ m in
      let k1 : k + 1 ≡ suc k = omega arith in
      let a : bits_of (take (suc k) (set room k (y % 256))) ≡ bits_of (take k room) ++ as_bits 8 y =
      ap bits_of (take-suc-set room k (y % 256) g) ∙ bits_append (take k room) (y % 256 ∷ [])
      ∙ ap (λ (l : List ℕ). bits_of (take k room) ++ l) (append-nil (as_bits 8 (y % 256)) ∙ as_bits_mod 8 y) in
      let d : drop (suc k) room ≡ drop (suc k) before = sym (rw k1 at (drop-drop 1 k room)) ∙ ap (drop 1) p.rest
      ∙ rw k1 at (drop-drop 1 k before) in
      record {
        bits = rw (k1, a, append_assoc (bits_of (take k room)) (as_bits 8 y) (as_bits m x), ← as_bits_split 8 m x, ← e) p.bits;
        rest = rw k1 (drop-set-lt (suc k) room k (y % 256) (omega arith) ∙ d);
      }

module _ {before room : List ℕ} {k n x : ℕ} {F : List ℕ} where
  -- all whole bytes are
  pub pending_flush : 8 ≤ n → n < 24 → k + n / 8 ≤ length room → Pending before room k n x F
      → Pending before (flushed room k n x) (k + n / 8) (n % 8) x F
  unfolding flushed
  pending_flush a b g p = go (leb 16 n) refl
    where
      one_byte : Pending before (set room k (x / 2 ^ (n - 8) % 256)) (k + 1) (n - 8) x F
      one_byte = pending_byte (n - 8) (omega arith) (omega arith) p

      go : (t : Bool) → leb 16 n ≡ t
          → Pending before
          (cond t (set (set room k (x / 2 ^ (n - 8) % 256)) (k + 1) (x / 2 ^ (n - 16) % 256)) (set room k (x / 2 ^ (n - 8) % 256)))
          (k + n / 8) (n % 8) x F
      go true t =
          let l : 16 ≤ n = leb-true 16 n t in
          pending_as (k + n / 8) (n % 8) F
          (pending_byte (n - 16) (omega arith) (omega (arith, length-set room k (x / 2 ^ (n - 8) % 256))) one_byte)
          (omega arith) (omega arith) refl
      go false t =
          let l : n < 16 = leb-false 16 n t in
          pending_as (k + n / 8) (n % 8) F one_byte (omega arith) (omega arith) refl

module _ {before room : List ℕ} {k n x : ℕ} {F : List ℕ} where
  -- w bits more, of which the whole bytes are stored
  pub pending_push : (w v : ℕ) → v < 2 ^ w → 8 ≤ n + w → n + w < 24 → k + (n + w) / 8 ≤ length room → Pending before room k n x F
      → Pending before (flushed room k (n + w) (x * 2 ^ w + v)) (k + (n + w) / 8) ((n + w) % 8) ((x * 2 ^ w + v) % 256) (F ++ as_bits w v)
  pending_push w v g a b l p = pending_last (omega arith) (pending_flush a b l (pending_more w v g p))
