-- The code's entries as the method's.
use Rattle.method.specs.declared.Entry.{Entry}
use Rattle.method.specs.declared.Entry.TheVariants.{Unknown, Unreachable, Known}
use Rattle.method.specs.declared.Filled.{Filled}
use Rattle.method.specs.Rules
use Rattle.method.specs.Entries
use Rattle.method.specs.Entries.{unknown, unreachable, known}

-- what a node says of a target
abbrev pub meant : Entry → Entries.Entry
meant Unknown = unknown
meant Unreachable = unreachable
meant (Known d h) = known d h

-- a filled entry
abbrev pub filled : Filled → Rules.Filled
filled e = record { target = e.target; distance = e.distance; hop = e.hop }
