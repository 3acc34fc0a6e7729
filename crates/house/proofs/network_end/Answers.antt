-- `network_end`: the arc count is the third byte, and an input without one is shorter than any network.
use mathlib.Core.Path.{◌≡◌, ◌∙◌}
use Prim.Native.Nat.{min}
use native.Mathlib.Omega.{arith}
use lib.ListN.{length, get_or}
use borrow.Author.Rules.{rules}
use Rattle.bits.specs.Bits.{Bytes}
use Rattle.network.specs.Bytes.{size}
use Rattle.house.proofs.Parts.{network_end_lem}
use Rattle.house.proofs.network_end.Goals as goal

pub returns : goal.returns
returns c =
    let input = c.args.input.now in
    let by : Bytes input = record { each = λ i. omega (arith, c.type_inv.input i) } in
    let third : c.from-count.result ≡ get_or input 2 0 = search rules in
    let e : c.min.result ≡ min (size (get_or input 2 0)) (length input) = omega arith in
    e ∙ network_end_lem input by
