-- Bytes put after a text, one part after the other, and a text that began in an empty room.
use mathlib.Core.Path.{◌≡◌, sym, ap, ◌∙◌}
use mathlib.Core.List.{List, ◌++◌}
use Prim.Native.Nat.{ℕ, ◌≤◌}
use native.Mathlib.Omega.{arith}
use lib.ListN.{length}
use lib.Seq.{length-sets}
use Rattle.std.specs.Borrow.{MutBor}
use Rattle.house_words.specs.declared.Text.{Text}
use Rattle.house_words.specs.Room.{Front}
use Rattle.house_words.specs.Texts.{IsEmptyIn, Fits, Appends}
use Rattle.house_words.proofs.Writing.{rest, both, at_front}

pub same_length : {old new : Text} {a : List ℕ} → Appends old a new → length new.room.now ≡ length old.room.now
same_length {old} {new} {a} w = ap length w.written.holds ∙ length-sets old.room.now old.end a

module _ {old mid : Text} {a : List ℕ} (w : Appends old a mid) {b : List ℕ} where
  -- where two parts fit, the second fits after the first
  pub fits_after : Fits old (a ++ b) → Fits mid b
  fits_after h = rest w.written h

  pub appends_both : {new : Text} → Appends mid b new → Appends old (a ++ b) new
  appends_both v = record { same_room = v.same_room ∙ w.same_room; written = both w.written v.written }

-- all that was written in the room, when the room is back with its lender
pub stands_in_front : {room : MutBor (List ℕ)} {bytes after last : List ℕ} {old new : Text} {size : ℕ} → IsEmptyIn room old
    → Fits old bytes → Appends old bytes new → (size ≡ new.end) × (last ≡ new.room.now)
    → (room.ghost_name ≡ new.room.ghost_name → after ≡ last) → Front room.now bytes after size
stands_in_front empty h w ends back =
    rw (back (sym (w.same_room ∙ empty.same_room)), ends.0, ends.1)
    (at_front (rw (empty.untouched, empty.ends) at w.written) (rw (empty.untouched, empty.ends) at h))

-- bytes that are no longer than the room fit in it
pub fits_empty : {room : MutBor (List ℕ)} {bytes : List ℕ} {text : Text} {n : ℕ} → IsEmptyIn room text → n ≤ length room.now
    → length bytes ≤ n → Fits text bytes
fits_empty empty long short = rw (empty.untouched, empty.ends) (record { fits = omega arith })
