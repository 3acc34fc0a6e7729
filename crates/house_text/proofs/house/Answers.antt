-- `house`: the whole text has room, so each part has.
use mathlib.Core.List.{List}
use Prim.Native.Nat.{ℕ, ◌^◌, ◌≤◌, ◌<◌}
use lib.ListN.{length, get_or}
use native.Mathlib.Omega.{arith}
use Rattle.std.specs.Borrow.{MutBor}
use Rattle.house_words.specs.declared.Text.{Text}
use Rattle.house_words.specs.Texts.{IsEmptyIn, Fits}
use Rattle.house_words.proofs.Writing.{front}
use Rattle.house_words.proofs.Texts.{fits_empty, fits_after, appends_both, stands_in_front}
use Rattle.house_text.specs.declared.Counts.{Counts}
use Rattle.house_text.specs.Lines.{house_text}
use Rattle.house_text.specs.Handed.{handed_entry}
use Rattle.house_text.specs.Room.{longest}
use Rattle.house_text.proofs.Short.{house_short}
use borrow.Author.Rules.{rules}
use Rattle.house_text.proofs.house.Goals as goal

whole : {room : MutBor (List ℕ)} {text : Text} (numbers : List ℕ) (k : Counts) (n : ℕ) → IsEmptyIn room text
    → ((j : ℕ) → get_or numbers j 0 < 2 ^ 16) → longest ≤ length room.now → n ≤ 16
    → k.taken < 2 ^ 64 → k.idle < 2 ^ 64 → k.unknown < 2 ^ 64 → k.stopped < 2 ^ 64
    → Fits text (house_text k.taken k.idle k.unknown k.stopped n (handed_entry n numbers))
whole numbers k n empty small long few a i u s =
    fits_empty empty long (house_short numbers small n few k.taken k.idle k.unknown k.stopped a i u s)

pub counts_line-requires : goal.counts_line-requires
counts_line-requires c =
    let a = c.args in
    let fits = whole a.numbers.now a.counts a.n c.new-text.ensures (λ j. omega (arith, c.type_inv.numbers j)) c.requires.0 c.requires.1
    (omega arith) (omega arith) (omega arith) (omega arith) in
    front _ fits

pub all_lines-requires : goal.all_lines-requires
all_lines-requires c =
    let a = c.args in
    let fits = whole a.numbers.now a.counts a.n c.new-text.ensures (λ j. omega (arith, c.type_inv.numbers j)) c.requires.0 c.requires.1
    (omega arith) (omega arith) (omega arith) (omega arith) in
    fits_after c.counts_line.ensures fits

pub returns : goal.returns
returns c =
    let a = c.args in
    let fits = whole a.numbers.now a.counts a.n c.new-text.ensures (λ j. omega (arith, c.type_inv.numbers j)) c.requires.0 c.requires.1
    (omega arith) (omega arith) (omega arith) (omega arith) in
    stands_in_front c.new-text.ensures fits (appends_both c.counts_line.ensures c.all_lines.ensures) c.finish.ensures (search rules)
