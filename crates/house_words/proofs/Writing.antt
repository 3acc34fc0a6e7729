-- One text written right after another, and a text at the beginning of a room.
use mathlib.Core.Path.{◌≡◌, ap, ◌∙◌}
use mathlib.Core.List.{List, ◌++◌}
use Prim.Native.Nat.{ℕ, ◌≤◌}
use native.Mathlib.Omega.{arith}
use lib.ListN.{length, length-append}
use lib.Seq.{length-sets}
use Rattle.method.proofs.Room.{sets_append, sets_begins}
use Rattle.house_words.specs.Room.{Front}
use Rattle.house_words.specs.Writing.{HasRoom, Written}

-- where two texts have room, the first has
pub front : {room : List ℕ} {at : ℕ} {a : List ℕ} (b : List ℕ) → HasRoom room at (a ++ b) → HasRoom room at a
front {a = a} b h = omega (arith, length-append a b)

-- where a text has room, so has another that is no longer
pub no_longer : {room : List ℕ} {at : ℕ} {a b : List ℕ} → HasRoom room at a → length b ≤ length a → HasRoom room at b
no_longer h l = omega (arith, h, l)

module _ {room a after : List ℕ} {at next : ℕ} (w : Written room at a after next) {b : List ℕ} where
  -- and the second has after it
  pub rest : HasRoom room at (a ++ b) → HasRoom after next b
  rest h = omega (arith, length-append a b, ap length w.holds, length-sets room at a)

  pub both : {last : List ℕ} {end : ℕ} → Written after next b last end → Written room at (a ++ b) last end
  both v =
      record {
        holds = v.holds ∙ rw (w.holds, w.ends) (sets_append room at a b);
        ends = omega (arith, length-append a b);
      }

pub at_front : {room text after : List ℕ} {size : ℕ} → Written room 0 text after size → HasRoom room 0 text → Front room text after size
at_front {room} {text} w h = record { holds = w.holds ∙ sets_begins text room (omega arith); whole = omega arith }

pub one_answer : (room text after after' : List ℕ) (answer answer' : ℕ)
    → Front room text after answer → Front room text after' answer' → (after ≡ after') × (answer ≡ answer')
one_answer room text after after' answer answer' f g = (cc, cc)
