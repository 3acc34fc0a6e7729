-- `power`: 2 to the d does not wrap.
use Prim.Native.Nat.{◌^◌, ◌≤◌}
use lib.Pow.{pow_mono, pow_pos}
use native.Mathlib.Omega.{arith}
use borrow.Author.Rules.{rules}
use Rattle.bits.proofs.power.Goals as goal

pub returns : goal.returns
returns c =
    let d = c.args.d in
    let l : 2 ^ d ≤ 2 ^ 24 = pow_mono {j = 24} (search rules) in
    omega (arith, pow_pos d)
