-- What holds of the texts.
use Rattle.std.specs.Prelude.{◌≡◌, List, ◌++◌, ℕ, ◌/◌, ◌%◌, ◌^◌, ◌≤◌, ◌<◌, length, get_or}
use Rattle.method.specs.Network.{IsNode}
use Rattle.method.specs.Entries.{Entry, known}
use Rattle.method.specs.Marks.{unreachable_mark, distance_of, hop_of}
use Rattle.house_words.specs.Decimal.{digit, decimal}
use Rattle.house_text.specs.Lines.{house_text, refused_line}
use Rattle.house_text.specs.Handed.{entry_by, handed_entry}
use Rattle.house_words.specs.Room.{Front}
use Rattle.house_text.specs.Room.{longest, longest_refused}

pub record TextLaws : Type 0 where
  -- A number below 10 is one digit; any other has the digits of its tenth, and then its last digit.
  pub one_digit : (x : ℕ) → x < 10 → decimal x ≡ digit x
  pub more_digits : (x : ℕ) → 10 ≤ x → decimal x ≡ decimal (x / 10) ++ digit (x % 10)
  -- An entry that is handed over as two numbers is that entry again, where a known distance is no mark.
  pub handed : (e : Entry) → ((d h : ℕ) → e ≡ known d h → d < unreachable_mark) → entry_by (distance_of e) (hop_of e) ≡ e
  -- The text speaks of the nodes 1 to n only.
  pub same_text : (A I U S n : ℕ) (f g : ℕ → ℕ → Entry) → ((i k : ℕ) → IsNode n i → IsNode n k → f i k ≡ g i k)
      → house_text A I U S n f ≡ house_text A I U S n g
  -- No text is longer than the room that is asked for.
  pub house_short : (entries : List ℕ) → ((j : ℕ) → get_or entries j 0 < 2 ^ 16) → (n : ℕ) → n ≤ 16
      → (A I U S : ℕ) → A < 2 ^ 64 → I < 2 ^ 64 → U < 2 ^ 64 → S < 2 ^ 64 → length (house_text A I U S n (handed_entry n entries)) ≤ longest
  pub refused_short : (N : ℕ) → N < 2 ^ 64 → length (refused_line N) ≤ longest_refused
  -- The promise of a call leaves one content of the room, and one answer.
  pub one_answer : (room text after after' : List ℕ) (answer answer' : ℕ)
      → Front room text after answer → Front room text after' answer' → (after ≡ after') × (answer ≡ answer')
