-- An arc as a caller hands it over.
use Rattle.method.specs.Network.{Arc as MethodArc}
use Rattle.network.specs.Refusal.{as_arc}
use Rattle.network.specs.declared.Arc.{Arc}

-- a record as an arc of the method
abbrev pub given : Arc → MethodArc
given a = as_arc a.tail a.head a.len
