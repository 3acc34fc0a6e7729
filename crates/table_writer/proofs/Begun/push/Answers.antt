-- `push`: the bits are held, and the whole bytes stored.
use Rattle.table_writer.proofs.Pended.{pending_push}
use native.Mathlib.Omega.{arith}
use Rattle.table_writer.proofs.Begun.push.Goals as goal

pub returns-clause-bits : goal.returns-clause-bits
returns-clause-bits c =
    λ before F p.
    rw (c.flush.ensures, c.power.ensures.0)
    (pending_push c.args.width c.args.value c.requires.2 (omega arith) (omega arith) (omega arith) p)
