-- `flush`: one byte is stored, and from 16 bits on a second.
use borrow.Author.Tests.{le-leb, lt-leb}
use Rattle.table_writer.specs.Code.{flushed}
use native.Mathlib.Omega.{arith}
use Rattle.table_writer.proofs.flush.Goals as goal

pub returns-then-n-ge16 : goal.returns-then-n-ge16
unfolding flushed
returns-then-n-ge16 c = simp (le-leb 16 c.args.n (omega arith))

pub returns-else-n-ge16 : goal.returns-else-n-ge16
unfolding flushed
returns-else-n-ge16 c = simp (lt-leb 16 c.args.n (omega arith))
