-- What is proved of House table's refusals: which one is given, and what is said of it.
use Rattle.std.specs.Prelude.{◌≡◌, ◌≢◌, List, ℕ}
use Rattle.refusal.specs.Rows.{Number}
use Rattle.network.specs.Bytes.{byte_rows}
use Rattle.house_text.specs.Lines.{refused_line}
use Rattle.house.specs.House.{network_bytes, input_refusal, text}

pub record HouseLaws : Type 0 where
  -- an input is refused with exactly the number that the rows of its network tell
  pub exactly : (input : List ℕ) → Number (byte_rows (network_bytes input)) (input_refusal input)
  -- "A refusal is the one line `refused N`": where there is one, nothing else is written
  pub number_only : (input : List ℕ) → input_refusal input ≢ 0 → text input ≡ refused_line (input_refusal input)
