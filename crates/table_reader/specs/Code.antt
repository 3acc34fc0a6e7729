-- What the parts of the reader answer.
use Rattle.std.specs.Prelude.{ℕ, Bool, eqb, if◌then◌else◌, Option, Some, None}
use Rattle.std.proofs.Math.Option
use Rattle.std.proofs.Math.Option.{none, some}
use Rattle.method.specs.Rules
use Rattle.method.specs.Entries.{known, said}
use Rattle.method.specs.Meant.{filled}
use Rattle.method.specs.declared.Filled.{Filled}
use Rattle.refusal.specs.Rows.{first, answer, ask_rows}
use Rattle.table.specs.declared.Header.{Header}
use Rattle.table.specs.Reader.{Read, refusal, says, phase_of}

-- a record, if there is one
abbrev pub found_of : Option Filled → Option.Option Rules.Filled
found_of None = none
found_of (Some e) = some (filled e)

-- the answer for target t of a file with the header h, where `mark` is whether the end mark stands, and o the record for t, if there is one
abbrev pub answered : Header → Bool → ℕ → Option.Option Rules.Filled → Read
answered h mark t o = answer (first (ask_rows h.n t)) refusal (says (if eqb t h.own then known 0 0 else said (phase_of mark) o))
