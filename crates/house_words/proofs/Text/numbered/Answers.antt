-- `numbered`: the number right after the word.
use native.Mathlib.Omega.{arith}
use Rattle.house_words.proofs.Decimal.{decimal_rises}
use Rattle.house_words.proofs.Writing.{no_longer}
use Rattle.house_words.proofs.Texts.{fits_after, appends_both}
use Rattle.house_words.proofs.Text.numbered.Goals as goal

pub number-requires : goal.number-requires
number-requires c = no_longer (fits_after c.word.ensures c.requires) (decimal_rises (omega arith))

pub returns : goal.returns
returns c = appends_both c.word.ensures c.number.ensures
