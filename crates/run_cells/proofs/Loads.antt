-- The numbers at the places of a field are the field.
use mathlib.Core.Path.{◌≡◌, refl, ◌∙◌}
use Prim.Native.Nat.{ℕ, ◌+◌, ◌<◌}
use native.Mathlib.Omega.{arith}
use lib.ListN.{get_or}
use Rattle.run_cells.specs.declared.Part.{Part as PartInCode}
use Rattle.run_cells.specs.Part.{table_size, entry_most, phase_at, sent_count, entry_count, lp_at, last_at, waits_at, delivered_at}
use Rattle.run_cells.specs.Part.{taken_at, sums_at, marks_at, targets_at, distances_at, hops_at, messages_at, phase_number}
use Rattle.run_cells.specs.Part.{targets_of, distances_of, hops_of, alone, numbers}
use Rattle.run_cells.proofs.Blocks.{before, within}
use Rattle.run_cells.proofs.Fields.{deliveries, takings, summing, marking, targeting, distancing, hopping}

module _ (p : PartInCode) where
  pub sent_is : numbers p sent_count ≡ p.sent
  unfolding numbers
  sent_is = refl

  pub filled_is : numbers p entry_count ≡ p.filled
  unfolding numbers
  filled_is = refl

  pub lp_is : numbers p lp_at ≡ p.lp
  unfolding numbers
  lp_is = refl

  pub last_is : numbers p last_at ≡ p.last
  unfolding numbers
  last_is = refl

  pub waits_is : numbers p waits_at ≡ p.waits
  unfolding numbers
  waits_is = refl

  pub phase_is : numbers p phase_at ≡ phase_number p.phase
  unfolding numbers
  phase_is = refl

  pub below_lists : (q : ℕ) → q < targets_at → numbers p q ≡ marking p q
  unfolding numbers
  below_lists q lt =
      before messages_at p.messages (hopping p) q (omega arith) ∙ before hops_at (hops_of p.entries) (distancing p) q (omega arith)
      ∙ before distances_at (distances_of p.entries) (targeting p) q (omega arith)
      ∙ before targets_at (targets_of p.entries) (marking p) q lt

  pub delivered_is : (h : ℕ) → h < table_size → numbers p (delivered_at + h) ≡ get_or p.delivered h 0
  delivered_is h lt =
      below_lists (delivered_at + h) (omega arith) ∙ before marks_at p.marks (summing p) (delivered_at + h) (omega arith)
      ∙ before sums_at p.sums (takings p) (delivered_at + h) (omega arith)
      ∙ before taken_at p.taken (deliveries p) (delivered_at + h) (omega arith)
      ∙ within delivered_at p.delivered (alone p) h

  pub taken_is : (h : ℕ) → h < table_size → numbers p (taken_at + h) ≡ get_or p.taken h 0
  taken_is h lt =
      below_lists (taken_at + h) (omega arith) ∙ before marks_at p.marks (summing p) (taken_at + h) (omega arith)
      ∙ before sums_at p.sums (takings p) (taken_at + h) (omega arith) ∙ within taken_at p.taken (deliveries p) h

  pub sum_is : (h : ℕ) → h < table_size → numbers p (sums_at + h) ≡ get_or p.sums h 0
  sum_is h lt =
      below_lists (sums_at + h) (omega arith) ∙ before marks_at p.marks (summing p) (sums_at + h) (omega arith)
      ∙ within sums_at p.sums (takings p) h

  pub mark_is : (y : ℕ) → y < table_size → numbers p (marks_at + y) ≡ get_or p.marks y 0
  mark_is y lt = below_lists (marks_at + y) (omega arith) ∙ within marks_at p.marks (summing p) y

  pub target_is : (k : ℕ) → k < entry_most → numbers p (targets_at + k) ≡ get_or (targets_of p.entries) k 0
  unfolding numbers
  target_is k lt =
      before messages_at p.messages (hopping p) (targets_at + k) (omega arith)
      ∙ before hops_at (hops_of p.entries) (distancing p) (targets_at + k) (omega arith)
      ∙ before distances_at (distances_of p.entries) (targeting p) (targets_at + k) (omega arith)
      ∙ within targets_at (targets_of p.entries) (marking p) k

  pub distance_is : (k : ℕ) → k < entry_most → numbers p (distances_at + k) ≡ get_or (distances_of p.entries) k 0
  unfolding numbers
  distance_is k lt =
      before messages_at p.messages (hopping p) (distances_at + k) (omega arith)
      ∙ before hops_at (hops_of p.entries) (distancing p) (distances_at + k) (omega arith)
      ∙ within distances_at (distances_of p.entries) (targeting p) k

  pub hop_is : (k : ℕ) → k < entry_most → numbers p (hops_at + k) ≡ get_or (hops_of p.entries) k 0
  unfolding numbers
  hop_is k lt = before messages_at p.messages (hopping p) (hops_at + k) (omega arith) ∙ within hops_at (hops_of p.entries) (distancing p) k

  pub message_is : (k : ℕ) → numbers p (messages_at + k) ≡ get_or p.messages k 0
  unfolding numbers
  message_is k = within messages_at p.messages (hopping p) k
