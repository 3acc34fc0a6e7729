-- `distance_hop`: of a known entry, the first hop right after the distance.
use Rattle.house_words.proofs.Texts.{fits_after, appends_both}
use Rattle.house_text.proofs.distance_hop.Goals as goal

pub numbered-requires : goal.numbered-requires
numbered-requires c = fits_after c.number.ensures (rw (c.in-Known.is, ← c.from.ensures, ← c.from-in-Known.ensures) at c.requires)

pub returns-in-Known : goal.returns-in-Known
returns-in-Known c = rw (c.in-Known.is, ← c.from.ensures, ← c.from-in-Known.ensures) (appends_both c.number.ensures c.numbered.ensures)
