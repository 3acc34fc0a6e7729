-- `refused`: the whole line has room, so each part has.
use Rattle.house_words.proofs.Writing.{front, no_longer}
use Rattle.house_words.proofs.Texts.{fits_after, appends_both, stands_in_front, fits_empty}
use Rattle.house_text.proofs.Short.{refused_short}
use native.Mathlib.Omega.{arith}
use borrow.Author.Rules.{rules}
use Rattle.house_text.proofs.refused.Goals as goal

pub numbered-requires : goal.numbered-requires
numbered-requires c = front _ (fits_empty c.new-line.ensures c.requires (refused_short c.args.number (omega arith)))

pub put-requires : goal.put-requires
put-requires c =
    let fits = fits_empty c.new-line.ensures c.requires (refused_short c.args.number (omega arith)) in
    no_longer (fits_after c.numbered.ensures fits) (omega arith)

pub returns : goal.returns
returns c =
    let fits = fits_empty c.new-line.ensures c.requires (refused_short c.args.number (omega arith)) in
    stands_in_front c.new-line.ensures fits (appends_both c.numbered.ensures c.put.ensures) c.finish.ensures (search rules)
