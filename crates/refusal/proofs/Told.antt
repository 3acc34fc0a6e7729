-- What a reason tells of rows.
use mathlib.Core.Path.{◌≡◌, sym, ◌∙◌}
use mathlib.Core.List.{List, ◌++◌}
use Prim.Native.Nat.{◌≤◌}
use native.Mathlib.Omega.{arith}
use Rattle.refusal.specs.declared.Reason.{Reason}
use Rattle.refusal.specs.declared.Reason.TheVariants.{WrongNetworkLength, WrongNetworkVersion, WrongLmax, TooManyArcs, WrongArcNode}
use Rattle.refusal.specs.declared.Reason.TheVariants.{ArcToItself, WrongArcLength, RepeatedArc, WrongNetworkPadding, NoSuchNode, NotStarted}
use Rattle.refusal.specs.declared.Reason.TheVariants.{RoomTooShort, FileTooShort, WrongFileVersion, WrongFileHeader, WrongRecord}
use Rattle.refusal.specs.declared.Reason.TheVariants.{WrongFileEnd, WrongNodeCount}
use Rattle.refusal.specs.Rows.{Row, refused}
use Rattle.refusal.specs.Told.{number_of}
use Rattle.refusal.proofs.Rows.{number_before}

-- no reason has the number 0
pub some : (reason : Reason) → 1 ≤ number_of reason
some WrongNetworkLength = omega arith
some WrongNetworkVersion = omega arith
some WrongLmax = omega arith
some TooManyArcs = omega arith
some WrongArcNode = omega arith
some ArcToItself = omega arith
some WrongArcLength = omega arith
some RepeatedArc = omega arith
some WrongNetworkPadding = omega arith
some NoSuchNode = omega arith
some NotStarted = omega arith
some RoomTooShort = omega arith
some FileTooShort = omega arith
some WrongFileVersion = omega arith
some WrongFileHeader = omega arith
some WrongRecord = omega arith
some WrongFileEnd = omega arith
some WrongNodeCount = omega arith

-- rows that are refused are refused alike whatever rows come after them
pub refused_early : (reason : Reason) (xs ys : List Row) → number_of reason ≡ refused xs → number_of reason ≡ refused (xs ++ ys)
refused_early reason xs ys e = e ∙ sym (number_before xs ys (λ z. omega (arith, some reason)))
