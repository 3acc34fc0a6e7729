-- What the first row that holds tells.
use mathlib.Core.Path.{◌≡◌, refl, sym, ◌∙◌, ap}
use mathlib.Core.Logic.{◌⊎◌, inl, inr}
use mathlib.Core.Bool.{Bool, true, false, cond}
use mathlib.Core.List.{List, [], ◌∷◌, ◌++◌}
use Prim.Native.Nat.{ℕ, zero, suc}
use native.Mathlib.Omega.{arith}
use Rattle.refusal.specs.Rows.{Refusal}
use Rattle.refusal.specs.Rows.{none, Row, refused_by, first, refused, answer_by, answer, ◌else◌, Clear, Given, Exactly, Number}

-- one row does not hold, and none of those after it
abbrev pub ◌next◌ : {A B : Type 0} → A → B → A × B
a next b = (a, b)

infixr 1 ◌next◌
-- no row holds exactly where nothing is refused
pub clear_none : (rows : List Row) → Clear rows → first rows ≡ none
clear_none [] c = refl
clear_none (row ∷ rows) c = rw c.0 (clear_none rows c.1)

pub clear : (rows : List Row) → refused rows ≡ 0 → Clear rows
clear [] e = tt
clear (row ∷ rows) e = go row.holds refl e (clear rows)
  where
    go : (t : Bool) → row.holds ≡ t → (cond t (refused_by row) (first rows)).number ≡ 0 → (refused rows ≡ 0 → Clear rows)
        → Clear (row ∷ rows)
    go true h e again = absurd (omega arith)
    go false h e again = (h, again e)

-- rows after others
pub after_clear : (xs ys : List Row) → Clear xs → first (xs ++ ys) ≡ first ys
after_clear [] ys c = refl
after_clear (row ∷ xs) ys c = rw c.0 (after_clear xs ys c.1)

pub clear_both : (xs ys : List Row) → Clear (xs ++ ys) → Clear xs × Clear ys
clear_both [] ys c = (tt, c)
clear_both (row ∷ xs) ys c = let d = clear_both xs ys c.1 in ((c.0, d.0), d.1)

pub both_clear : (xs ys : List Row) → Clear xs → Clear ys → Clear (xs ++ ys)
both_clear [] ys c d = d
both_clear (row ∷ xs) ys c d = (c.0, both_clear xs ys c.1 d)

pub after_none : (xs ys : List Row) → refused xs ≡ 0 → first (xs ++ ys) ≡ first ys
after_none xs ys e = after_clear xs ys (clear xs e)

pub before_all : (xs ys : List Row) → (refused xs ≡ 0 → ⊥) → first (xs ++ ys) ≡ first xs
before_all [] ys n = absurd (n refl)
before_all (row ∷ xs) ys n = go row.holds n (before_all xs ys)
  where
    go : (t : Bool) → ((cond t (refused_by row) (first xs)).number ≡ 0 → ⊥) → ((refused xs ≡ 0 → ⊥) → first (xs ++ ys) ≡ first xs)
        → cond t (refused_by row) (first (xs ++ ys)) ≡ cond t (refused_by row) (first xs)
    go true n again = refl
    go false n again = again n

-- rows that are refused alike
pub same_after : (xs ys zs : List Row) → first ys ≡ first zs → first (xs ++ ys) ≡ first (xs ++ zs)
same_after [] ys zs e = e
same_after (row ∷ xs) ys zs e = ap (cond row.holds (refused_by row)) (same_after xs ys zs e)

-- and their numbers
pub number_after : (xs ys : List Row) → refused xs ≡ 0 → refused (xs ++ ys) ≡ refused ys
number_after xs ys e = ap (λ (r : Refusal). r.number) (after_none xs ys e)

pub number_before : (xs ys : List Row) → (refused xs ≡ 0 → ⊥) → refused (xs ++ ys) ≡ refused xs
number_before xs ys n = ap (λ (r : Refusal). r.number) (before_all xs ys n)

pub number_clear : (rows : List Row) → Clear rows → refused rows ≡ 0
number_clear rows c = ap (λ (r : Refusal). r.number) (clear_none rows c)

-- what is answered where there is a refusal, and where there is none
pub answer_none : {A : Type 0} (r : Refusal) (refuse : Refusal → A) (x : A) → r.number ≡ 0 → answer r refuse x ≡ x
answer_none r refuse x e = rw e

pub answer_by_lem : {A : Type 0} (N : ℕ) (x y : A) → (N ≡ 0 → ⊥) → answer_by N x y ≡ x
answer_by_lem zero x y n = absurd (n refl)
answer_by_lem (suc N) x y n = refl

pub answer_some : {A : Type 0} (r : Refusal) (refuse : Refusal → A) (x : A) → (r.number ≡ 0 → ⊥) → answer r refuse x ≡ refuse r
answer_some r refuse x n = answer_by_lem r.number (refuse r) x n

-- numbers one after the other
pub else_none : (N : ℕ) → N else 0 ≡ N
else_none zero = refl
else_none (suc N) = refl

pub else_zero : (N q : ℕ) → N ≡ 0 → N else q ≡ q
else_zero N q e = rw e

pub else_some : (N q : ℕ) → (N ≡ 0 → ⊥) → N else q ≡ N
else_some N q n = answer_by_lem N N q n

pub else_assoc : (N M q : ℕ) → (N else M) else q ≡ N else (M else q)
else_assoc zero M q = refl
else_assoc (suc N) M q = refl

-- of two, none
pub else_both : (N q : ℕ) → N else q ≡ 0 → (N ≡ 0) × (q ≡ 0)
else_both zero q e = (refl, e)
else_both (suc N) q e = absurd (omega arith)

pub rows_else : (xs ys : List Row) → refused (xs ++ ys) ≡ refused xs else refused ys
rows_else xs ys = go (refused xs) refl
  where
    go : (N : ℕ) → refused xs ≡ N → refused (xs ++ ys) ≡ answer_by N (refused xs) (refused ys)
    go zero e = number_after xs ys e
    go (suc N) e = number_before xs ys (λ z. omega arith)

-- the refusal is exactly what the rows tell
pub exactly : (rows : List Row) → Exactly rows (first rows)
exactly rows = record { told = told rows; only = only }
  where
    told : (rows : List Row) → Given rows (first rows) ⊎ (Clear rows × (first rows ≡ none))
    told [] = inr (tt, refl)
    told (row ∷ rows) = go row.holds refl (told rows)
      where
        go : (t : Bool) → row.holds ≡ t → Given rows (first rows) ⊎ (Clear rows × (first rows ≡ none))
            → Given (row ∷ rows) (cond t (refused_by row) (first rows))
            ⊎ (Clear (row ∷ rows) × (cond t (refused_by row) (first rows) ≡ none))
        go true h d = inl (record { before = []; row = row; after = rows; stands = refl; clear = tt; holds = h; says = refl })
        go false h (inl g) =
            inl (record {
              before = row ∷ g.before;
              row = g.row;
              after = g.after;
              stands = ap (λ (r : List Row). row ∷ r) g.stands;
              clear = (h, g.clear);
              holds = g.holds;
              says = g.says;
            })
        go false h (inr n) = inr ((h, n.0), n.1)

    only : (q : Refusal) → Given rows q ⊎ (Clear rows × (q ≡ none)) → q ≡ first rows
    only q (inl g) = g.says ∙ sym (rw g.stands (after_clear g.before (g.row ∷ g.after) g.clear ∙ rw g.holds))
    only q (inr n) = n.1 ∙ sym (clear_none rows n.0)

pub by_rows : (rows : List Row) (N : ℕ) → refused rows ≡ N → Number rows N
by_rows rows N e = (first rows, exactly rows, e)

-- rows after those of which only the number is known
pub by_more : (xs ys : List Row) (N : ℕ) → refused xs ≡ N → Number (xs ++ ys) (N else refused ys)
by_more xs ys N e = by_rows (xs ++ ys) _ (rows_else xs ys ∙ ap (λ (M : ℕ). M else refused ys) e)
