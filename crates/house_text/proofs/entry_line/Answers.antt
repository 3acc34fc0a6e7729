-- `entry_line`: the parts of an entry's line, one after the other. That each has room is told by its length alone.
use lib.ListN.{length-append}
use native.Mathlib.Omega.{arith}
use Rattle.house_words.proofs.Writing.{no_longer}
use Rattle.house_words.proofs.Texts.{fits_after, appends_both}
use Rattle.house_text.proofs.entry_line.Goals as goal

pub numbered-requires : goal.numbered-requires
numbered-requires c = fits_after c.number.ensures (no_longer c.requires (simp length-append (omega arith)))

pub put-requires : goal.put-requires
put-requires c =
    fits_after (appends_both c.number.ensures c.numbered.ensures) (no_longer c.requires (simp length-append (omega arith)))

pub distance_hop-requires : goal.distance_hop-requires
distance_hop-requires c =
    let three = appends_both (appends_both c.number.ensures c.numbered.ensures) c.put.ensures in
    fits_after three (no_longer c.requires (simp length-append (omega arith)))

pub put-requires-2 : goal.put-requires-2
put-requires-2 c =
    let three = appends_both (appends_both c.number.ensures c.numbered.ensures) c.put.ensures in
    fits_after (appends_both three c.distance_hop.ensures) (no_longer c.requires (simp length-append (omega arith)))

pub returns : goal.returns
returns c =
    let three = appends_both (appends_both c.number.ensures c.numbered.ensures) c.put.ensures in
    appends_both (appends_both three c.distance_hop.ensures) c.put-2.ensures
