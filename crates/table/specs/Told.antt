-- What the code's results tell, in the words of the definitions.
use Rattle.std.specs.Prelude.{Bool, true, false, Result, Ok, Err}
use Rattle.method.specs.declared.Entry.{Entry}
use Rattle.method.specs.Meant.{meant}
use Rattle.refusal.specs.declared.Refusal.{Refusal}
use Rattle.refusal.specs.Rows
use Rattle.refusal.specs.Told.{told}
use Rattle.table.specs.declared.Ending.{Ending}
use Rattle.table.specs.declared.Ending.TheVariants.{Unfinished, Marked}
use Rattle.table.specs.Reader.{Read, refusal, says}

-- a value, or a refusal as one of the rows
abbrev pub told_in : {A : Type 0} → Result A Refusal → Result A Rows.Refusal
told_in (Ok x) = Ok x
told_in (Err r) = Err (told r)

-- an entry that is read, or a refusal
abbrev pub read_of : Result Entry Refusal → Read
read_of (Ok e) = says (meant e)
read_of (Err r) = refusal (told r)

-- whether the end mark stands
abbrev pub is_marked : Ending → Bool
is_marked Unfinished = false
is_marked Marked = true
