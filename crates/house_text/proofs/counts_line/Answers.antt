-- `counts_line`: four counts and a line feed, one after the other.
use Rattle.house_words.proofs.Writing.{front}
use Rattle.house_words.proofs.Texts.{fits_after, appends_both}
use Rattle.house_text.proofs.counts_line.Goals as goal

pub numbered-requires-2 : goal.numbered-requires-2
numbered-requires-2 c = fits_after c.numbered.ensures (front _ (front _ (front _ c.requires)))

pub numbered-requires-3 : goal.numbered-requires-3
numbered-requires-3 c = fits_after (appends_both c.numbered.ensures c.numbered-2.ensures) (front _ (front _ c.requires))

pub numbered-requires-4 : goal.numbered-requires-4
numbered-requires-4 c =
    fits_after (appends_both (appends_both c.numbered.ensures c.numbered-2.ensures) c.numbered-3.ensures) (front _ c.requires)

pub put-requires : goal.put-requires
put-requires c =
    let three = appends_both (appends_both c.numbered.ensures c.numbered-2.ensures) c.numbered-3.ensures in
    fits_after (appends_both three c.numbered-4.ensures) c.requires

pub returns : goal.returns
returns c =
    let three = appends_both (appends_both c.numbered.ensures c.numbered-2.ensures) c.numbered-3.ensures in
    appends_both (appends_both three c.numbered-4.ensures) c.put.ensures
