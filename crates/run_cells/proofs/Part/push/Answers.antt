-- `push`: the message, then the number of messages.
use mathlib.Core.Path.{ap, ◌∙◌}
use Prim.Native.Nat.{ℕ, ◌+◌}
use native.Mathlib.Omega.{arith}
use Rattle.run_cells.specs.Part.{Part, sent_count, messages_at, numbers}
use Rattle.run_cells.specs.Stores.{upd, pushed}
use Rattle.run_cells.proofs.Fields.{store_sent, store_message}
use Rattle.run_cells.proofs.Part.push.Goals as goal

pub returns : goal.returns
unfolding pushed numbers
returns c =
    let p = c.args.self.now in
    store_sent _ (p.sent + 1)
    ∙ ap (λ (f : Part). upd f sent_count (p.sent + 1)) (store_message p c.from.result c.args.message (omega arith))
    ∙ ap (λ (k : ℕ). upd (upd (numbers p) (messages_at + k) c.args.message) sent_count (p.sent + 1)) c.from.ensures
