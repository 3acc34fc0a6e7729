-- 01, "Refusal numbers": rows as data. A row has a number, a place and a test; a call has a list of rows, in 01's order, and is refused
-- by the first that holds.
use Rattle.std.specs.Prelude.{ℕ, zero, suc, ◌-◌, ◌≡◌, ◌⊎◌, Bool, true, false, ◌||◌, List, [], ◌∷◌, ◌++◌, ltb, eqb, if◌then◌else◌}

-- a refusal: its number, 0 for none, and the place of what is wrong, a bit of a table file, 0 where there is none
pub record Refusal : Type 0 where
  pub number : ℕ
  pub place : ℕ

-- one by its number and its place
abbrev pub refusal : ℕ → ℕ → Refusal
refusal N p = record { number = N; place = p }

-- no refusal
abbrev pub none : Refusal
none = refusal 0 0

-- a row of the table: its number less 1, for none has the number 0; the place it names; and whether it holds
pub record Row : Type 0 where
  pub below : ℕ
  pub place : ℕ
  pub holds : Bool

-- row N, given when the test holds, which names bit p
abbrev pub ◌at◌when◌ : ℕ → ℕ → Bool → Row
N at p when t = record { below = N - 1; place = p; holds = t }

infix 70 ◌at◌when◌
-- row N, which names no place
abbrev pub ◌when◌ : ℕ → Bool → Row
N when t = N at 0 when t

infix 70 ◌when◌
-- what a row that holds is refused with
abbrev pub refused_by : Row → Refusal
refused_by row = refusal (suc row.below) row.place

-- the first row that holds
abbrev pub first : List Row → Refusal
first [] = none
first (row ∷ rows) = if row.holds then refused_by row else first rows

-- its number, 0 if none holds
abbrev pub refused : List Row → ℕ
refused rows = (first rows).number

-- "outside 1 to m"
abbrev pub outside : ℕ → ℕ → Bool
outside m y = eqb y 0 || ltb m y

-- "11: node or target asked for outside 1 to n"
abbrev pub ask_rows : ℕ → ℕ → List Row
ask_rows n y = 11 when outside n y ∷ []

-- "13: the file is longer than the room", and so of all that a call writes: `long` numbers into a room of `wide`
abbrev pub room_rows : ℕ → ℕ → List Row
room_rows wide long = 13 when ltb wide long ∷ []

-- what a call answers: where it is refused, and where it is not
abbrev pub answer_by : {A : Type 0} → ℕ → A → A → A
answer_by zero x y = y
answer_by (suc N) x y = x

abbrev pub answer : {A : Type 0} → Refusal → (Refusal → A) → A → A
answer r refuse accept = answer_by r.number (refuse r) accept

-- a refusal that was found, or, where there is none, what follows
abbrev pub ◌else◌ : ℕ → ℕ → ℕ
N else q = answer_by N N q

infixr 20 ◌else◌
-- none of the rows holds
abbrev pub Clear : List Row → Type 0
Clear [] = Unit {0}
Clear (row ∷ rows) = (row.holds ≡ false) × Clear rows

-- "Given exactly when": a row that holds is refused with r, and none before it holds
pub record Given (rows : List Row) (r : Refusal) : Type 0 where
  pub before : List Row
  pub row : Row
  pub after : List Row
  pub stands : rows ≡ before ++ (row ∷ after)
  pub clear : Clear before
  pub holds : row.holds ≡ true
  pub says : r ≡ refused_by row

-- r is what the rows tell: the refusal that is given, or none where no row holds; and nothing else is
pub record Exactly (rows : List Row) (r : Refusal) : Type 0 where
  pub told : Given rows r ⊎ (Clear rows × (r ≡ none))
  pub only : (q : Refusal) → Given rows q ⊎ (Clear rows × (q ≡ none)) → q ≡ r

-- N is the number of what the rows tell
abbrev pub Number : List Row → ℕ → Type 0
Number rows N = (r : Refusal) × Exactly rows r × (r.number ≡ N)
