-- `starts_and_messages`: two bytes never overflow.
use mathlib.Core.Path.{◌≡◌}
use Prim.Native.Nat.{ℕ, ◌+◌, ◌*◌, ◌≤◌}
use native.Mathlib.Nat.{mul-le-mul}
use Rattle.std.proofs.Math.Nat.{mul-add, mul_left_comm}
use native.Mathlib.Omega.{arith}
use Rattle.network.specs.declared.Network.{Network}
use Rattle.network.proofs.LaidOut.{arc_count}
use Rattle.network.proofs.Laws.{sizes}
use Rattle.call_most.proofs.starts_and_messages.Goals as goal

-- the messages over all arcs: of LMAX and the number of arcs only the product counts, and that neither is above 240
few : (net : Network) (a b n : ℕ) → a * b ≡ net.layout.count * net.layout.lmax → a ≤ 240 → b ≤ 240 → n ≤ 16
    → a * (n * b + n + 1) ≤ 240 * 257
few net a b n either left right small =
    let s = sizes net in
    let arcs : net.layout.count ≤ 240 = omega arith in
    let lmax : net.layout.lmax ≤ 15 = omega arith in
    let both : a * b ≤ 240 * 15 = rw either (mul-le-mul arcs lmax) in
    let items : n * (a * b) ≤ 16 * (240 * 15) = mul-le-mul small both in
    let labels : a * n ≤ 240 * 16 = mul-le-mul left small in
    omega (arith, items, labels, mul-add a (n * b + n) 1, mul-add a (n * b) n, mul_left_comm a n b)

pub overflow_mul-result-2 : goal.overflow_mul-result-2
overflow_mul-result-2 c =
    let net = c.args.net.now in
    let s = sizes net in
    let either : c.from.result * c.from-2.result ≡ net.layout.count * net.layout.lmax =
    rw (c.from.ensures, c.from-2.ensures) (omega arith) in
    let most = few net c.from.result c.from-2.result c.from-nodes.result either (omega arith) (omega arith) (omega arith) in
    record { fits = omega arith }

pub overflow_add-result-3 : goal.overflow_add-result-3
overflow_add-result-3 c =
    let net = c.args.net.now in
    let s = sizes net in
    let either : c.from.result * c.from-2.result ≡ net.layout.count * net.layout.lmax =
    rw (c.from.ensures, c.from-2.ensures) (omega arith) in
    let most = few net c.from.result c.from-2.result c.from-nodes.result either (omega arith) (omega arith) (omega arith) in
    record { fits = omega arith }

pub returns : goal.returns
returns c = rw (c.from-nodes.ensures, c.from.ensures, c.from-2.ensures, arc_count c.args.net.now.layout)
