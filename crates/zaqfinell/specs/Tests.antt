-- What the tests of 01's rows mean where they go through a list. The others say what they mean.
use Rattle.std.specs.Prelude.{◌≡◌, ◌↔◌, true, List, ℕ}
use Rattle.method.specs.Network.{Arc, IsArc}
use Rattle.method.specs.Rules.{Filled, Phase, unstarted, has}
use Rattle.method.specs.Invariant.{Has}
use Rattle.network.specs.Refusal.{joined}
use Rattle.call.specs.Calls.{is_unstarted}

pub record Tests : Type 0 where
  -- 8: "same tail and head as an earlier arc"
  pub repeated_arc : (earlier : List Arc) (i j : ℕ) → (joined earlier i j ≡ true) ↔ ((l : ℕ) × IsArc earlier i j l)
  -- 12: "file wanted of a node not started"
  pub not_started : (ph : Phase) → (is_unstarted ph ≡ true) ↔ (ph ≡ unstarted)
  -- 17: "target [..] repeated"
  pub repeated_target : (y : ℕ) (es : List Filled) → (has y es ≡ true) ↔ Has y es
