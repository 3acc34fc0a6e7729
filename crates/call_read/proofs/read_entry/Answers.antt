-- `read_entry`: a first hop is small.
use mathlib.Core.Path.{sym}
use Rattle.table.proofs.Small.{hop_small}
use Rattle.call_read.proofs.read_entry.Goals as goal

pub entered-requires : goal.entered-requires
entered-requires c = hop_small c.args.file.now c.args.target _ (sym c.in-Ok.ensures)
