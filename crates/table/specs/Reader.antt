-- 01, "Bytes", the reader, and "Refusal numbers": what it makes of any bytes.
use Rattle.std.specs.Prelude.{ℕ, zero, suc, ◌+◌, ◌-◌, ◌*◌, ◌%◌, List, [], ◌∷◌, ◌++◌, Bool, true, false, not, ◌&&◌, ◌||◌, length, ltb, leb}
use Rattle.std.specs.Prelude.{eqb, if◌then◌else◌}
use Rattle.bits.specs.Bits.{bits_of, field}
use Rattle.method.specs.Rules.{Filled, Phase, started, stopped, has}
use Rattle.method.specs.Entries.{Entry, known, find, said, last_distance}
use Rattle.refusal.specs.Rows.{Refusal}
use Rattle.refusal.specs.Rows
use Rattle.refusal.specs.Rows.{Row, ◌when◌, ◌at◌when◌, first, answer, ask_rows}
use Rattle.table.specs.File.{Form, header_size, record_size, start_of}
use Rattle.table.specs.declared.Header.{Header}

-- the header's fields
unfoldable pub header_at : Form → List ℕ → Header
header_at f B =
    record {
      own = field B 4 f.node + 1;
      n = field B (4 + f.node) f.node + 1;
      lmax = field B (4 + f.node + f.node) f.len;
    }

-- "File: 14, 15, 16"
unfoldable pub header_rows : Form → Header → List ℕ → List Row
header_rows f h s =
    -- "table file under 2 bytes", named at the first bit that is not there
    14 at (8 * length s) when ltb (length s) 2
    -- "table file version not 1"
    ∷ 15 at 0 when not (eqb (field (bits_of s) 0 4) f.version)
    -- "own number over n"
    ∷ 16 at 4 when ltb h.n h.own
    -- "or LMAX 0"
    ∷ 16 at (4 + f.node + f.node) when eqb h.lmax 0
    ∷ []

-- the record at bit p, after the records `seen`, newest first
unfoldable pub record_at : Form → List Filled → List ℕ → ℕ → Filled
record_at f seen B p =
    record {
      target = field B (p + 1) f.node + 1;
      hop = field B (p + 1 + f.node) f.node + 1;
      distance = last_distance seen + field B (p + 1 + f.node + f.node) f.len;
    }

-- 17: "a whole record has", in the record at bit p, each named at the field that is wrong
unfoldable pub field_rows : Form → Header → ℕ → Bool → Bool → ℕ → ℕ → ℕ → List Row
field_rows f h p repeated first target hop difference =
    -- "target over n, the node itself or repeated"
    17 at (p + 1) when (ltb h.n target || eqb target h.own || repeated)
    -- "first hop over n or the node itself"
    ∷ 17 at (p + (1 + f.node)) when (ltb h.n hop || eqb hop h.own)
    -- "difference over LMAX; or, in the first record, difference 0"
    ∷ 17 at (p + (1 + f.node + f.node)) when (ltb h.lmax difference || (first && eqb difference 0))
    ∷ []

-- of a record after the records `seen`: its difference is its distance less that of the record before
abbrev pub record_rows : Form → Header → List Filled → Filled → List Row
record_rows f h seen e =
    field_rows f h (start_of f (length seen)) (has e.target seen) (eqb (length seen) 0)
    e.target e.hop (e.distance - last_distance seen)

-- "records in order 17"
unfoldable pub records_rows : Form → Header → List Filled → List Row
records_rows f h [] = []
records_rows f h (e ∷ seen) = records_rows f h seen ++ record_rows f h seen e

-- "the 0 bit" stands at bit p
abbrev pub zero_bit : List ℕ → ℕ → Bool
zero_bit B p = ltb p (length B) && eqb (field B p 1) 0

-- the first bit from p on that is not 0, among w
unfoldable pub first_one : List ℕ → ℕ → ℕ → ℕ
first_one B zero p = p
first_one B (suc w) p = if eqb (field B p 1) 0 then first_one B w (p + 1) else p

-- "then 18": "after the 0 bit"
unfoldable pub end_rows : List ℕ → ℕ → List Row
end_rows B p =
    -- "a bit not 0", named at the first of them
    18 at first_one B (7 - p % 8) (p + 1) when (zero_bit B p && not (eqb (field B (p + 1) (7 - p % 8)) 0))
    -- "or a further byte", named at its first bit
    ∷ 18 at (p + (8 - p % 8)) when (zero_bit B p && ltb (p + (8 - p % 8)) (length B))
    ∷ []

-- "takes records while the next bit is 1 and 13 bits stand": one stands at bit p
abbrev pub stands : Form → List ℕ → ℕ → Bool
stands f B p = eqb (field B p 1) 1 && leb (p + record_size f) (length B)

-- and is not refused after the records `seen`
abbrev pub passes : Form → Header → List Filled → List ℕ → ℕ → Bool
passes f h seen B p = stands f B p && eqb (Rows.refused (record_rows f h seen (record_at f seen B p))) 0

-- from bit p on; each turn takes a record, so there are never more turns than bits
unfoldable pub walk : Form → Header → ℕ → List Filled → List ℕ → ℕ → List Filled
walk f h zero seen B p = seen
walk f h (suc turns) seen B p = if passes f h seen B p then walk f h turns (record_at f seen B p ∷ seen) B (p + record_size f) else seen

-- the records after the header, newest first, before the first one that is cut or refused
unfoldable pub records_in : Form → Header → List ℕ → List Filled
records_in f h B = walk f h (length B) [] B (header_size f)

-- where they end
abbrev pub end_of : Form → Header → List ℕ → ℕ
end_of f h B = start_of f (length (records_in f h B))

-- what stands at bit p after the records `seen`: one more record, or the end
abbrev pub next_rows : Form → Header → List Filled → List ℕ → ℕ → List Row
next_rows f h seen B p = if stands f B p then record_rows f h seen (record_at f seen B p) else end_rows B p

-- "records in order 17, then 18"
unfoldable pub body_rows : Form → Header → List ℕ → List Row
body_rows f h B = records_rows f h (records_in f h B) ++ next_rows f h (records_in f h B) B (end_of f h B)

-- "File: 14, 15, 16, records in order 17, then 18"
unfoldable pub file_rows : Form → List ℕ → List Row
file_rows f s = header_rows f (header_at f (bits_of s)) s ++ body_rows f (header_at f (bits_of s)) (bits_of s)

-- a file refused, or accepted: its header, its records, newest first, and whether the end mark stands
pub data Reading : Type 0 where
  refused : Refusal → Reading
  accepted : Header → List Filled → Bool → Reading

-- what the reader makes of the bytes s
unfoldable pub reading : Form → List ℕ → Reading
reading f s = answer (first (file_rows f s)) refused (accepted h (records_in f h B) (zero_bit B (end_of f h B)))
  where
    B : List ℕ
    B = bits_of s

    h : Header
    h = header_at f B

-- the end mark tells that the node has stopped
abbrev pub phase_of : Bool → Phase
phase_of true = stopped
phase_of false = started

-- an accepted file's entry for y: the node itself, a record's, or one that is not there
abbrev pub entry_in : Header → List Filled → Bool → ℕ → Entry
entry_in h es mark y = if eqb y h.own then known 0 0 else said (phase_of mark) (find y es)

-- what is read: a refusal, or an entry
pub data Read : Type 0 where
  refusal : Refusal → Read
  says : Entry → Read

-- "then 11 for the target"
abbrev pub read_rows : Form → List ℕ → ℕ → List Row
read_rows f s y = file_rows f s ++ ask_rows (header_at f (bits_of s)).n y

-- what a reading says of y
abbrev pub entry_from : Reading → ℕ → Read
entry_from (refused r) y = refusal r
entry_from (accepted h es mark) y = answer (first (ask_rows h.n y)) refusal (says (entry_in h es mark y))

-- the entry for y in the bytes s
abbrev pub entry_read : Form → List ℕ → ℕ → Read
entry_read f s y = entry_from (reading f s) y
