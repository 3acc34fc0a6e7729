-- What is left of a lent room that a text is written into.
use Rattle.std.specs.Prelude.{◌≡◌, List, ℕ, length}
use Rattle.method.specs.Room.{begins}

-- the text stands at the beginning, the bytes beyond it stay, and the answer is its length
pub record Front (room text after : List ℕ) (answer : ℕ) : Type 0 where
  pub holds : after ≡ begins text room
  pub whole : answer ≡ length text
