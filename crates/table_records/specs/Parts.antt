-- The parts of a table file, as the numbers that the code makes of them.
use Rattle.std.specs.Prelude.{ℕ, ◌+◌, ◌≡◌, Bool, List, length, ltb, eqb, ◌&&◌, if◌then◌else◌, Option, Some, None, Result, Ok, Err}
use Rattle.bits.specs.Bits.{field}
use Rattle.method.specs.Rules.{Filled}
use Rattle.refusal.specs.declared.Refusal.{Refusal}
use Rattle.refusal.specs.Rows
use Rattle.refusal.specs.Rows.{refusal, none}
use Rattle.refusal.specs.Told.{told}
use Rattle.table.specs.File.{Form}
use Rattle.table.specs.declared.Header.{Header}
use Rattle.table.specs.declared.Ending.{Ending}
use Rattle.table.specs.Reader.{field_rows, Reading, refused, accepted}
use Rattle.table.specs.Told.{is_marked}
use Rattle.table_records.specs.declared.Field.{Field}
use Rattle.table_records.specs.declared.Field.TheVariants.{Target, Hop, Difference}

-- the 13 bits from bit p on, 0 where fewer stand
unfoldable pub bits_standing : List ℕ → ℕ → ℕ
bits_standing B p = if ltb (length B) (p + 13) then 0 else field B p 13

-- where the fields of the record at bit p begin
abbrev pub field_place : Form → ℕ → Field → ℕ
field_place f p Target = p + 1
field_place f p Hop = p + (1 + f.node)
field_place f p Difference = p + (1 + f.node + f.node)

-- a record at bit p whose first wrong field is this one is refused so
abbrev pub refusal_at : Form → ℕ → Option Field → Rows.Refusal
refusal_at f p None = none
refusal_at f p (Some k) = refusal 17 (field_place f p k)

-- k is the first field that 17's rows refuse, if they refuse one, wherever the record begins; and whether or not it is the first, if `none`
-- says that it is and its difference is 0
abbrev pub FirstWrong : Form → Header → Bool → ℕ → ℕ → ℕ → Bool → Option Field → Type 0
FirstWrong f h repeated target hop difference none k =
    (p : ℕ) (first : Bool) → none ≡ (first && eqb difference 0)
    → Rows.first (field_rows f h p repeated first target hop difference) ≡ refusal_at f p k

-- how records end of which r is the refusal, if there is one, and where `mark` is whether the end mark stands
abbrev pub Concludes : Rows.Refusal → Bool → Result Ending Refusal → Type 0
Concludes r mark (Ok ending) = (r ≡ none) × (is_marked ending ≡ mark)
Concludes r mark (Err q) = told q ≡ r

-- what their ending makes of the records es
abbrev pub concluded : Header → List Filled → Result Ending Refusal → Reading
concluded h es (Ok ending) = accepted h es (is_marked ending)
concluded h es (Err q) = refused (told q)
