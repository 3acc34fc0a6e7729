-- How long the texts can be.
use mathlib.Core.Bool.{Bool, true, false, cond}
use mathlib.Core.List.{List}
use Prim.Native.Nat.{ℕ, ◌+◌, ◌*◌, ◌^◌, ◌≤◌, ◌<◌}
use native.Mathlib.Omega.{arith}
use lib.Dec.{eqb}
use lib.ListN.{length, get_or, length-append}
use Rattle.method.specs.Entries.{unknown, unreachable, known}
use Rattle.method.specs.Marks.{unknown_mark, unreachable_mark}
use Rattle.house_words.specs.Decimal.{decimal}
use Rattle.house_text.specs.Lines.{counts_line, distance_hop, entry_line, node_lines, rising, house_text, refused_line}
use Rattle.house_text.specs.Handed.{entry_by, handed_entry}
use Rattle.house_text.specs.Room.{longest, longest_refused}
use Rattle.house_words.proofs.Decimal.{decimal_short}
use Rattle.house_text.proofs.Rising.{rising_short}

-- the digits of a number of 64 bits, and of one of 16
digits_64 : (x : ℕ) → x < 2 ^ 64 → length (decimal x) ≤ 20
digits_64 x h = decimal_short 19 x (omega arith)

digits_16 : (x : ℕ) → x < 2 ^ 16 → length (decimal x) ≤ 5
digits_16 x h = decimal_short 4 x (omega arith)

counts_short : (A I U S : ℕ) → A < 2 ^ 64 → I < 2 ^ 64 → U < 2 ^ 64 → S < 2 ^ 64 → length (counts_line A I U S) ≤ 31 + 4 * 20
counts_short A I U S a i u s = simp length-append (omega (arith, digits_64 A a, digits_64 I i, digits_64 U u, digits_64 S s))

distance_hop_short : (d h : ℕ) → d < 2 ^ 16 → h < 2 ^ 16 → length (distance_hop (entry_by d h)) ≤ 11
distance_hop_short d h p q = go (eqb d unknown_mark) (eqb d unreachable_mark)
  where
    go : (b c : Bool) → length (distance_hop (cond b unknown (cond c unreachable (known d h)))) ≤ 11
    go true c = omega arith
    go false true = omega arith
    go false false = simp length-append (omega (arith, digits_16 d p, digits_16 h q))

module _ (entries : List ℕ) (small : (j : ℕ) → get_or entries j 0 < 2 ^ 16) (n : ℕ) (few : n ≤ 16) where
  line_short : (i k : ℕ) → i ≤ 16 → k ≤ 16 → length (entry_line i k (handed_entry n entries i k)) ≤ 18
  line_short i k p q =
      let e : length (distance_hop (handed_entry n entries i k)) ≤ 11 = distance_hop_short _ _ (small _) (small _) in
      simp length-append (omega (arith, decimal_short 1 i (omega arith), decimal_short 1 k (omega arith)))

  node_lines_short : (i : ℕ) → i ≤ 16 → length (node_lines (handed_entry n entries) n i) ≤ 16 * 18
  node_lines_short i h =
      omega (arith, rising_short (λ k. entry_line i k (handed_entry n entries i k)) 18 n (λ k l. line_short i k h (omega arith)))

  pub house_short : (A I U S : ℕ) → A < 2 ^ 64 → I < 2 ^ 64 → U < 2 ^ 64 → S < 2 ^ 64
      → length (house_text A I U S n (handed_entry n entries)) ≤ longest
  house_short A I U S a i u s =
      omega (
        arith,
        length-append (counts_line A I U S) (rising (node_lines (handed_entry n entries) n) n),
        counts_short A I U S a i u s,
        rising_short (node_lines (handed_entry n entries) n) (16 * 18) n (λ node l. node_lines_short node (omega arith)),
      )

pub refused_short : (N : ℕ) → N < 2 ^ 64 → length (refused_line N) ≤ longest_refused
refused_short N h = simp length-append (omega (arith, digits_64 N h))
