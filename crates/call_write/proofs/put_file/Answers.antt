-- `put_file`: the entries after the first are lent.
use mathlib.Core.Path.{◌≡◌, subst}
use mathlib.Core.List.{List}
use Prim.Native.Nat.{ℕ}
use native.Mathlib.Omega.{arith}
use Rattle.network.proofs.Laws.{sizes}
use Rattle.table.specs.Told.{told_in}
use Rattle.call.specs.Files.{outcome, room_after}
use Rattle.call_write.proofs.Held.{count_is, lent_held}
use Rattle.call_write.proofs.put_file.Goals as goal

pub records_of-records-requires-clause-some : goal.records_of-records-requires-clause-some
records_of-records-requires-clause-some c =
    let s = sizes c.args.net.now in
    omega (arith, count_is c.args.state.now c.args.node (omega arith) (omega arith))

pub records_of-records-requires-clause-few : goal.records_of-records-requires-clause-few
records_of-records-requires-clause-few c =
    let s = sizes c.args.net.now in
    omega (arith, count_is c.args.state.now c.args.node (omega arith) (omega arith))

pub returns-clause-told : goal.returns-clause-told
returns-clause-told c =
    let s = sizes c.args.net.now in
    let st = c.args.state.now in
    let n = count_is st c.args.node (omega arith) (omega arith) in
    let e = lent_held st c.args.node (omega arith) (omega arith) c.args.net.now.layout _ _ (omega arith) (omega arith)
    c.records_of-records.ensures.all c.records_of-records.ensures.lent c.has_stopped-stopped.ensures in
    subst (λ (w : List ℕ). told_in c.write_file.result ≡ outcome w c.args.room.now) e
    (rw (c.from.ensures, c.from-2.ensures) at c.write_file.ensures.0)

pub returns-clause-left : goal.returns-clause-left
returns-clause-left c =
    let s = sizes c.args.net.now in
    let st = c.args.state.now in
    let n = count_is st c.args.node (omega arith) (omega arith) in
    let e = lent_held st c.args.node (omega arith) (omega arith) c.args.net.now.layout _ _ (omega arith) (omega arith)
    c.records_of-records.ensures.all c.records_of-records.ensures.lent c.has_stopped-stopped.ensures in
    subst (λ (w : List ℕ). c.write_file.new.room ≡ room_after w c.args.room.now) e
    (rw (c.from.ensures, c.from-2.ensures) at c.write_file.ensures.1)
