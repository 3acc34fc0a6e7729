-- What a cursor means, and what one step of it promises: any loop of such steps is the definition's walk.
use Rattle.std.specs.Prelude.{ℕ, ◌+◌, ◌-◌, ◌/◌, ◌%◌, ◌^◌, ◌≡◌, Bool, true, false, List, [], ◌∷◌, length, drop, eqb}
use Rattle.std.specs.Prelude.{Option, Some, None, Result, Ok, Err}
use Rattle.method.specs.Rules.{Filled}
use Rattle.method.specs.declared.Filled
use Rattle.method.specs.Meant.{filled}
use Rattle.method.specs.Entries.{last_distance}
use Rattle.refusal.specs.declared.Refusal.{Refusal}
use Rattle.refusal.specs.Rows.{first}
use Rattle.refusal.specs.Told.{told}
use Rattle.table.specs.File.{Form, one, start_of}
use Rattle.table.specs.declared.Header.{Header}
use Rattle.table.specs.Reader.{stands, walk, records_in, end_rows, body_rows}
use Rattle.table_records.specs.declared.Cursor.{Cursor}

-- a set of targets as one number: t is in it
abbrev pub is_in : ℕ → ℕ → Bool
is_in set t = eqb (set / 2 ^ (t - 1) % 2) 1

-- the targets of records, none of them twice
unfoldable pub seen_of : List Filled → ℕ
seen_of [] = 0
seen_of (e ∷ es) = seen_of es + 2 ^ (e.target - 1)

-- after a header of 16 bits
abbrev pub beginning : Cursor
beginning = record { at = 16; seen = 0; distance = 0 }

-- THE INVARIANT of a cursor: it stands after the records es, newest first, and what the walk takes in all is what it takes from here on
pub record At (f : Form) (h : Header) (B : List ℕ) (c : Cursor) (es : List Filled) : Type 0 where
  pub walks : records_in f h B ≡ walk f h (length B - length es) es B c.at
  pub place : c.at ≡ start_of f (length es)
  pub seen : c.seen ≡ seen_of es
  pub distance : c.distance ≡ last_distance es

-- the records of a file that stand before bit p, newest first
unfoldable pub before : Header → List ℕ → ℕ → List Filled
before h B p = drop (length (records_in one h B) - (p - 16) / 13) (records_in one h B)

-- what a step from the cursor c to d gives: one record more; or they end at c, where none stands, or where one stands that is refused. So
-- there is one answer for each cursor: 17 is told here, and 18 never (proofs/OneAnswer.antt).
abbrev pub Steps : Header → List ℕ → Cursor → Cursor → Result (Option Filled.Filled) Refusal → Type 0
Steps h B c d (Ok (Some e)) = before h B d.at ≡ filled e ∷ before h B c.at
Steps h B c d (Ok None) =
    (before h B c.at ≡ records_in one h B) × (first (body_rows one h B) ≡ first (end_rows B c.at)) × (d ≡ c) × (stands one B c.at ≡ false)
Steps h B c d (Err r) =
    (before h B c.at ≡ records_in one h B) × (told r ≡ first (body_rows one h B)) × (d ≡ c) × (stands one B c.at ≡ true)
