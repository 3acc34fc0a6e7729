-- An arc list as a caller hands it over.
use Rattle.std.specs.Prelude.{List, map, ℕ}
use Rattle.network.specs.Checked.{Checked, from_list}
use Rattle.network.specs.Given.{given}
use Rattle.network.specs.declared.Arc.{Arc}

-- what the check finds of the list: each theorem is over the `from_list` that it is
abbrev pub from_arcs : ℕ → ℕ → List Arc → Checked
from_arcs n lmax arcs = from_list n lmax (map given arcs)
