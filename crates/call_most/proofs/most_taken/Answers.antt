-- `most_taken`: what is laid out is the network meant.
use mathlib.Core.Path.{sym, ap, ◌∙◌}
use Rattle.std.proofs.lemmas.Result.{err_from_is_err_and}
use Rattle.method.specs.Network.{Net}
use Rattle.method.specs.Bounds.{most_taken}
use Rattle.call.specs.Answers.{values}
use Rattle.call.proofs.Found.{refused_first, others_tell}
use Rattle.call_most.proofs.most_taken.Goals as goal

pub returns-in_err-net : goal.returns-in_err-net
returns-in_err-net c net is =
    let p = err_from_is_err_and c.from_residual.result c.from_residual.ensures.1 in
    rw (p.1, p.2) (refused_first net c.in_err-net.field-0.0 (rw c.in_err-net.was at is) _)

pub returns : goal.returns
returns c net is =
    let found = rw c.in_ok-net.was at is in
    ap (λ (k : _). values k 0) c.starts_and_messages.ensures ∙ ap (λ (a : Net). values (most_taken a) 0) found.meant
    ∙ sym (others_tell net c.in_ok-net.net found _)
