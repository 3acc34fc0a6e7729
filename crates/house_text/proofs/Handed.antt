-- Entries handed over as numbers, and the entries that a house's text speaks of.
use mathlib.Core.Path.{◌≡◌, refl, ap, ap₂}
use mathlib.Core.List.{List, ◌++◌}
use Prim.Native.Nat.{ℕ, zero, suc, ◌<◌}
use native.Mathlib.Omega.{arith}
use borrow.Author.Tests.{ne_eqb}
use Rattle.method.specs.Network.{IsNode}
use Rattle.method.specs.Entries.{Entry, unknown, unreachable, known}
use Rattle.method.specs.Marks.{unknown_mark, unreachable_mark, distance_of, hop_of}
use Rattle.house_text.specs.Lines.{counts_line, entry_line, rising, node_lines, house_text}
use Rattle.house_text.specs.Handed.{entry_by}

pub handed : (e : Entry) → ((d h : ℕ) → e ≡ known d h → d < unreachable_mark) → entry_by (distance_of e) (hop_of e) ≡ e
handed unknown l = refl
handed unreachable l = refl
handed (known d h) l =
    let b : d < unreachable_mark = l d h refl in
    rw (ne_eqb d unknown_mark (omega arith), ne_eqb d unreachable_mark (omega arith))

rising_same : (f g : ℕ → List ℕ) (n : ℕ) → ((k : ℕ) → IsNode n k → f k ≡ g k) → rising f n ≡ rising g n
rising_same f g zero e = refl
rising_same f g (suc n) e =
    ap₂ (λ (s t : List ℕ). s ++ t) (rising_same f g n (λ k h. e k (omega arith))) (e (suc n) (omega arith))

pub same_text : (A I U S n : ℕ) (f g : ℕ → ℕ → Entry) → ((i k : ℕ) → IsNode n i → IsNode n k → f i k ≡ g i k)
    → house_text A I U S n f ≡ house_text A I U S n g
same_text A I U S n f g e =
    ap (λ (t : List ℕ). counts_line A I U S ++ t)
    (rising_same (node_lines f n) (node_lines g n) n
    (λ i p. rising_same (λ k. entry_line i k (f i k)) (λ k. entry_line i k (g i k)) n (λ k q. ap (entry_line i k) (e i k p q))))
