-- `put_digits`: the digits of the tenth, and the last digit right after them.
use native.Mathlib.Omega.{arith}
use Rattle.house_words.proofs.Decimal.{one_digit, more_digits, decimal_rises}
use Rattle.house_words.proofs.Writing.{no_longer, rest, both}
use Rattle.house_words.proofs.+put_digits.Goals as goal

pub put_byte-requires : goal.put_byte-requires
put_byte-requires t c = rw (one_digit c.args.x (omega arith)) at c.requires

pub returns-then-x-lt10 : goal.returns-then-x-lt10
returns-then-x-lt10 t c = rw (one_digit c.args.x (omega arith)) c.put_byte.ensures

pub put_digits-last-requires : goal.put_digits-last-requires
put_digits-last-requires t c = (omega arith, no_longer c.requires (decimal_rises (omega arith)))

pub put_byte-requires-2 : goal.put_byte-requires-2
put_byte-requires-2 t c = rest c.put_digits-last.ensures (rw (more_digits c.args.x (omega arith)) at c.requires)

pub returns : goal.returns
returns t c = rw (more_digits c.args.x (omega arith)) (both c.put_digits-last.ensures c.put_byte-2.ensures)
