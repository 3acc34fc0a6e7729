-- `word`: one byte more at each turn.
use Prim.Native.Nat.{◌<◌}
use native.Mathlib.Numerals.{add-one}
use lib.ListN.{length}
use lib.Seq.{length-take-le, take-suc}
use Rattle.house_words.proofs.Texts.{same_length, appends_both}
use borrow.Author.Rules.{rules}
use native.Mathlib.Omega.{arith}
use Rattle.house_words.proofs.Text.word.Goals as goal

pub put-requires : goal.put-requires
put-requires c =
    let so_far = c.loop-byte.invariant.2 in
    omega (arith, length-take-le c.loop-byte.byte-index c.args.word.now (omega arith), so_far.written.ends, same_length so_far)

pub loop-byte-preserved : goal.loop-byte-preserved
loop-byte-preserved c =
    let word = c.args.word.now in
    let k = c.loop-byte.byte-index in
    let lt : k < length word = omega arith in
    (omega arith, search rules, rw (add-one k, take-suc word k 0 lt) (appends_both c.loop-byte.invariant.2 c.put.ensures))
