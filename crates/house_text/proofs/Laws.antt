-- Every law of specs/Laws holds.
use Rattle.house_text.specs.Laws.{TextLaws}
use Rattle.house_words.proofs.Decimal.{one_digit, more_digits}
use Rattle.house_text.proofs.Handed.{handed, same_text}
use Rattle.house_text.proofs.Short.{house_short, refused_short}
use Rattle.house_words.proofs.Writing.{one_answer}

pub laws : TextLaws
laws =
    record {
      one_digit = one_digit;
      more_digits = more_digits;
      handed = handed;
      same_text = same_text;
      house_short = house_short;
      refused_short = refused_short;
      one_answer = one_answer;
    }
