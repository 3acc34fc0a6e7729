-- `first_one`: the bits that are left tell what all do.
use mathlib.Core.Path.{◌≡◌, sym, ◌∙◌, ap}
use Prim.Native.Nat.{ℕ, ◌+◌, ◌-◌}
use Rattle.bits.specs.Bits.{bits_of}
use Rattle.table.specs.Reader.{first_one}
use Rattle.table_records.proofs.FirstOne.{found, passed, none_left}
use native.Mathlib.Omega.{arith}
use Rattle.table_records.proofs.first_one.Goals as goal

pub loop-q-init : goal.loop-q-init
loop-q-init c =
    let a = c.args in
    ap (λ (k : ℕ). first_one (bits_of a.file.now) k a.p) (omega arith)

pub returns-then-read-ne0 : goal.returns-then-read-ne0
returns-then-read-ne0 c =
    let l = c.loop-q in
    sym (found (bits_of c.args.file.now) _ l.q (omega arith) (λ z. c.if-read-ne0.true (c.read.ensures.0 ∙ z))) ∙ l.invariant

pub loop-q-preserved : goal.loop-q-preserved
loop-q-preserved c =
    let B = bits_of c.args.file.now in
    let l = c.loop-q in
    ap (λ (k : ℕ). first_one B k (l.q + 1)) (omega arith)
    ∙ passed B (c.args.p + c.args.w - l.q) l.q (omega arith) (sym c.read.ensures.0 ∙ c.if-read-ne0.false)
    ∙ l.invariant

pub returns : goal.returns
returns c =
    let l = c.loop-q in
    let end : c.args.p + c.args.w ≡ l.q = omega (arith, l.auto.q-end (omega arith)) in
    end ∙ sym (none_left (bits_of c.args.file.now) _ l.q (omega arith)) ∙ l.invariant
