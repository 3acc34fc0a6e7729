-- What the inner functions promise: a room is written from front to back.
use Rattle.std.specs.Prelude.{◌≡◌, List, ℕ, ◌+◌, ◌≤◌, length}
use Rattle.std.proofs.lemmas.List.Edits.{sets}

-- the text ends within the room if it begins at `at`
pub record HasRoom (room : List ℕ) (at : ℕ) (text : List ℕ) : Type 0 where
  pub fits : at + length text ≤ length room

-- the text stands from `at` on, all else is as it was, and `next` is the place right after the text
pub record Written (room : List ℕ) (at : ℕ) (text after : List ℕ) (next : ℕ) : Type 0 where
  pub holds : after ≡ sets room at text
  pub ends : next ≡ at + length text
