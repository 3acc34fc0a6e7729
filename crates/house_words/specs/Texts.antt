-- What the methods of a text promise: its room is written from front to back.
use Rattle.std.specs.Prelude.{◌≡◌, List, ℕ}
use Rattle.std.specs.Borrow.{MutBor}
use Rattle.house_words.specs.declared.Text.{Text}
use Rattle.house_words.specs.Writing.{HasRoom, Written}

-- the room was lent for the text, and nothing is written in it
pub record IsEmptyIn (room : MutBor (List ℕ)) (text : Text) : Type 0 where
  pub same_room : text.room.ghost_name ≡ room.ghost_name
  pub untouched : text.room.now ≡ room.now
  pub ends : text.end ≡ 0

-- these bytes have room after the text
abbrev pub Fits : Text → List ℕ → Type 0
Fits text bytes = HasRoom text.room.now text.end bytes

-- new is old with these bytes after it
pub record Appends (old : Text) (bytes : List ℕ) (new : Text) : Type 0 where
  pub same_room : new.room.ghost_name ≡ old.room.ghost_name
  pub written : Written old.room.now old.end bytes new.room.now new.end
