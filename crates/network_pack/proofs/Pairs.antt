-- The bytes of a network that is not refused, two arcs in three bytes.
use mathlib.Core.Path.{◌≡◌, refl, sym, ◌∙◌, ap, ap₂}
use mathlib.Core.Logic.{inl, inr}
use mathlib.Core.List.{List, [], ◌∷◌, ◌++◌, append_assoc, append-nil}
use Prim.Native.Nat.{ℕ, suc, ◌+◌, ◌-◌, ◌*◌, ◌/◌, ◌≤◌, ◌<◌}
use native.Mathlib.Omega.{arith}
use native.Mathlib.Nat.{mod-eq_of_lt}
use lib.ListN.{length}
use lib.Seq.{take_at, drop_at}
use Rattle.bits.specs.Bits.{as_bits, packed}
use Rattle.bits.proofs.AsBits.{length_as_bits, number_as_bits, as_bits_join}
use Rattle.method.specs.Network.{Arc}
use Rattle.network.specs.Bytes.{size, spare, arc_bits, net_bits, bytes_of}
use Rattle.network.specs.Fits.{AllFit}
use Rattle.network_pack.specs.Pairs.{halves, pair_bytes}

-- the first eight bits are the first byte
one_byte : (n v : ℕ) (R : List ℕ) → v < 256 → packed (suc n) (as_bits 8 v ++ R) ≡ v ∷ packed n R
unfolding packed
one_byte n v R h =
    rw (take_at (as_bits 8 v) R 8 (length_as_bits 8 v), drop_at (as_bits 8 v) R 8 (length_as_bits 8 v))
    (ap (λ (b : ℕ). b ∷ packed n R) (number_as_bits 8 v ∙ mod-eq_of_lt h))

-- a byte of two fields
two_halves : (n x y : ℕ) (R : List ℕ) → x < 16 → y < 16 → packed (suc n) (as_bits 4 x ++ (as_bits 4 y ++ R)) ≡ halves x y ∷ packed n R
two_halves n x y R hx hy =
    let e : x * 16 + y ≡ halves x y = omega arith in
    ap (packed (suc n)) (sym (append_assoc (as_bits 4 x) (as_bits 4 y) R)
    ∙ ap (λ (B : List ℕ). B ++ R) (sym (as_bits_join 4 4 x y hy) ∙ ap (as_bits 8) e))
    ∙ one_byte n (halves x y) R (omega arith)

-- three bytes of six fields
three_bytes_lem : (n u v w x y z : ℕ) (R : List ℕ) → u < 16 → v < 16 → w < 16 → x < 16 → y < 16 → z < 16
    → packed (suc (suc (suc n)))
    (as_bits 4 u ++ (as_bits 4 v ++ (as_bits 4 w ++ (as_bits 4 x ++ (as_bits 4 y ++ (as_bits 4 z ++ R)))))) ≡ halves u v ∷ halves w
    x ∷ halves y z ∷ packed n R
three_bytes_lem n u v w x y z R hu hv hw hx hy hz =
    rw (two_halves (suc (suc n)) u v _ hu hv, two_halves (suc n) w x _ hw hx, two_halves n y z R hy hz)

-- how many bytes m arcs take
abbrev behind : ℕ → ℕ
behind m = (12 * m + 7) / 8

-- the bytes of the arcs
arcs_packed : (ar : List Arc) → AllFit ar → packed (behind (length ar)) (arc_bits ar ++ as_bits (spare (length ar)) 0) ≡ pair_bytes ar
unfolding arc_bits pair_bytes packed
arcs_packed [] fit = refl
arcs_packed (a ∷ []) fit =
    let f = fit a.tail a.head a.len (inl (refl, refl, refl)) in
    let B : List ℕ = as_bits 4 (a.tail - 1) ++ (as_bits 4 (a.head - 1) ++ (as_bits 4 a.len ++ (as_bits 4 0 ++ []))) in
    let e : arc_bits (a ∷ []) ++ as_bits 4 0 ≡ B = simp (append_assoc, append-nil) in
    ap (packed 2) e ∙ rw (
      two_halves 1 (a.tail - 1) (a.head - 1) _ (omega arith) (omega arith),
      two_halves 0 a.len 0 [] (omega arith)
          (omega arith),
    )
arcs_packed (a ∷ b ∷ ar) fit =
    let f = fit a.tail a.head a.len (inl (refl, refl, refl)) in
    let g = fit b.tail b.head b.len (inr (inl (refl, refl, refl))) in
    let m : ℕ = length ar in
    let R : List ℕ = arc_bits ar ++ as_bits (spare m) 0 in
    let n : behind (suc (suc m)) ≡ suc (suc (suc (behind m))) = omega arith in
    let s : spare (suc (suc m)) ≡ spare m = omega arith in
    let B : List ℕ = as_bits 4
    (a.tail - 1) ++ (as_bits 4
    (a.head - 1) ++ (as_bits 4 a.len ++ (as_bits 4 (b.tail - 1) ++ (as_bits 4 (b.head - 1) ++ (as_bits 4 b.len ++ R))))) in
    let e : arc_bits (a ∷ b ∷ ar) ++ as_bits (spare m) 0 ≡ B = simp append_assoc in
    ap₂ (λ (j z : ℕ). packed j (arc_bits (a ∷ b ∷ ar) ++ as_bits z 0)) n s
    ∙ ap (packed (suc (suc (suc (behind m))))) e
    ∙ three_bytes_lem (behind m) (a.tail - 1) (a.head - 1) a.len (b.tail - 1) (b.head - 1) b.len R (omega arith) (omega arith)
    (omega arith) (omega arith) (omega arith) (omega arith)
    ∙ ap (λ (r : List ℕ). halves (a.tail - 1) (a.head - 1) ∷ halves a.len (b.tail - 1) ∷ halves (b.head - 1) b.len ∷ r)
    (arcs_packed ar (λ i j l k. fit i j l (inr (inr k))))

-- the bytes of a network
pub bytes_in_pairs : (n lmax : ℕ) (ar : List Arc) → n ≤ 16 → lmax ≤ 15 → length ar ≤ 240 → AllFit ar
    → bytes_of n lmax ar ≡ halves 1 (n - 1) ∷ halves lmax 0 ∷ length ar ∷ pair_bytes ar
unfolding net_bits
bytes_in_pairs n lmax ar hn hl hm fit =
    let m : ℕ = length ar in
    let R : List ℕ = arc_bits ar ++ as_bits (spare m) 0 in
    let e : net_bits n lmax ar ≡ as_bits 4 1 ++ (as_bits 4 (n - 1) ++ (as_bits 4 lmax ++ (as_bits 4 0 ++ (as_bits 8 m ++ R)))) =
    simp append_assoc in
    let k : size m ≡ suc (suc (suc (behind m))) = omega arith in
    ap₂ packed k e
    ∙ rw (
      two_halves (suc (suc (behind m))) 1 (n - 1) _ (omega arith) (omega arith),
      two_halves (suc (behind m)) lmax 0 _ (omega arith)
          (omega arith),
      one_byte (behind m) m R (omega arith),
    )
    (ap (λ (r : List ℕ). halves 1 (n - 1) ∷ halves lmax 0 ∷ m ∷ r) (arcs_packed ar fit))
