-- Numbers laid out in blocks: a store into a block, or into what lies before it, is a store at its place; and the number at a place.
use mathlib.Core.Path.{◌≡◌, refl, ap, ◌∙◌, fun_ext}
use mathlib.Core.Bool.{Bool, true, false, cond}
use mathlib.Core.List.{List}
use Prim.Native.Nat.{ℕ, ◌+◌, ◌-◌, ◌<◌}
use native.Mathlib.Omega.{arith}
use lib.Dec.{leb, eqb}
use lib.ListN.{length, get_or, set}
use lib.Seq.{get_or-set_same, get_or-set_other}
use borrow.Author.Tests.{leb-true, leb-false, eqb-true, eqb-false, le-leb, lt-leb}
use Rattle.run_cells.specs.Part.{Part, block}
use Rattle.run_cells.specs.Stores.{upd}

-- a store into a block, and one before it
pub into : (b : ℕ) (xs : List ℕ) (f : Part) (k v : ℕ) → k < length xs → block b (set xs k v) f ≡ upd (block b xs f) (b + k) v
into b xs f k v lt = fun_ext (λ q. go q (leb b q) refl (eqb q (b + k)) refl)
  where
    go : (q : ℕ) (a : Bool) → leb b q ≡ a → (e : Bool) → eqb q (b + k) ≡ e
        → cond a (get_or (set xs k v) (q - b) 0) (f q) ≡ cond e v (cond a (get_or xs (q - b) 0) (f q))
    go q true ea true ee =
        let z : q - b ≡ k = omega (arith, eqb-true q (b + k) ee) in
        ap (λ (n : ℕ). get_or (set xs k v) n 0) z ∙ get_or-set_same xs k v 0 lt
    go q true ea false ee =
        let le = leb-true b q ea in
        let ne = eqb-false q (b + k) ee in
        get_or-set_other xs k (q - b) v 0 (omega arith)
    go q false ea true ee = absurd (omega (arith, leb-false b q ea, eqb-true q (b + k) ee))
    go q false ea false ee = refl

pub under : (b : ℕ) (xs : List ℕ) (f : Part) (o v : ℕ) → o < b → block b xs (upd f o v) ≡ upd (block b xs f) o v
under b xs f o v lt = fun_ext (λ q. go q (leb b q) refl (eqb q o) refl)
  where
    go : (q : ℕ) (a : Bool) → leb b q ≡ a → (e : Bool) → eqb q o ≡ e
        → cond a (get_or xs (q - b) 0) (cond e v (f q)) ≡ cond e v (cond a (get_or xs (q - b) 0) (f q))
    go q true ea true ee = absurd (omega (arith, leb-true b q ea, eqb-true q o ee))
    go q true ea false ee = refl
    go q false ea e ee = refl

-- a number of a block, and one before it
pub within : (b : ℕ) (xs : List ℕ) (f : Part) (k : ℕ) → block b xs f (b + k) ≡ get_or xs k 0
within b xs f k =
    let e : b + k - b ≡ k = omega arith in
    rw (le-leb b (b + k) (omega arith)) (ap (λ (n : ℕ). get_or xs n 0) e)

pub before : (b : ℕ) (xs : List ℕ) (f : Part) (q : ℕ) → q < b → block b xs f q ≡ f q
before b xs f q lt = rw (lt-leb b q lt)
