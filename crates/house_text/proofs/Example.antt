-- 01's worked example of the bench program: the network and the steps that the input gives, and the whole text.
use mathlib.Core.Path.{◌≡◌, refl}
use mathlib.Core.List.{List, [], ◌∷◌, map}
use Rattle.method.specs.Network.{Net, by_number}
use Rattle.method.specs.Message.{oldest, sent_after}
use Rattle.method.specs.Steps.{Step, byte_step, run, counts}
use Rattle.method.specs.Entries.{entry}
use Rattle.house_words.specs.Decimal.{decimal}
use Rattle.house_text.specs.Lines.{bytes, house_text}

-- the bytes 11 10 01 01 10: two nodes, LMAX 1, and one arc from 1 to 2 of length 1
abbrev net : Net
net = record { n = 2; lmax = 1; arcs = record { tail = 1; head = 2; len = 1 } ∷ []; rank = by_number }

-- the bytes 00 01 10 10 10
abbrev steps : List Step
steps = map byte_step (0x00 ∷ 0x01 ∷ 0x10 ∷ 0x10 ∷ 0x10 ∷ [])

-- both nodes have stopped
pub worked_example : house_text (counts net steps).taken (counts net steps).idle (counts net steps).unknown 2 net.n (entry net steps)
    ≡ bytes "taken 4 idle 1 unknown 0 stopped 2\n1 1 0 0\n1 2 1 2\n2 1 - -\n2 2 0 0\n"
unfolding decimal run counts oldest sent_after
worked_example = refl
