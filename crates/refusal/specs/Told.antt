-- What the code's refusals and results tell, as numbers and places of document 01.
use Rattle.std.specs.Prelude.{ℕ, Result, Ok, Err}
use Rattle.refusal.specs.declared.Reason.{Reason}
use Rattle.refusal.specs.declared.Reason.TheVariants.{WrongNetworkLength, WrongNetworkVersion, WrongLmax, TooManyArcs, WrongArcNode}
use Rattle.refusal.specs.declared.Reason.TheVariants.{ArcToItself, WrongArcLength, RepeatedArc, WrongNetworkPadding, NoSuchNode, NotStarted}
use Rattle.refusal.specs.declared.Reason.TheVariants.{RoomTooShort, FileTooShort, WrongFileVersion, WrongFileHeader, WrongRecord}
use Rattle.refusal.specs.declared.Reason.TheVariants.{WrongFileEnd, WrongNodeCount}
use Rattle.refusal.specs.declared.Refusal.{Refusal}
use Rattle.refusal.specs.Rows

-- a reason's number
abbrev pub number_of : Reason → ℕ
number_of WrongNetworkLength = 1
number_of WrongNetworkVersion = 2
number_of WrongLmax = 3
number_of TooManyArcs = 4
number_of WrongArcNode = 5
number_of ArcToItself = 6
number_of WrongArcLength = 7
number_of RepeatedArc = 8
number_of WrongNetworkPadding = 9
number_of NoSuchNode = 11
number_of NotStarted = 12
number_of RoomTooShort = 13
number_of FileTooShort = 14
number_of WrongFileVersion = 15
number_of WrongFileHeader = 16
number_of WrongRecord = 17
number_of WrongFileEnd = 18
number_of WrongNodeCount = 19

-- a refusal of the code as one of the rows
abbrev pub told : Refusal → Rows.Refusal
told r = Rows.refusal (number_of r.reason) r.place

-- what a result is refused with, 0 for none
abbrev pub number_in : {A : Type 0} → Result A Reason → ℕ
number_in (Ok x) = 0
number_in (Err reason) = number_of reason
