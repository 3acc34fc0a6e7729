-- No call with an accepted network is refused where the nodes asked for are nodes of the house, a node whose file is wanted has started,
-- and a room has the size that the header calls always enough. A room of that size is never too short for the entries of a file.
use mathlib.Core.Path.{◌≡◌, sym, ap, ◌∙◌}
use mathlib.Core.Logic.{inl, inr, ◌≢◌}
use mathlib.Core.Bool.{false}
use mathlib.Core.List.{List}
use Prim.Native.Nat.{ℕ, zero, suc, ◌*◌, ◌≤◌}
use native.Mathlib.Nat.{mul-le-mul}
use native.Mathlib.Omega.{arith}
use lib.ListN.{length}
use borrow.Author.Tests.{le-ltb}
use Rattle.bits.specs.Bits.{bits_of}
use Rattle.bits.proofs.Bytes.{field_below}
use Rattle.method.specs.Network.{IsNode, Accepted}
use Rattle.method.specs.Steps.{steps}
use Rattle.method.specs.Entries.{phase}
use Rattle.refusal.specs.Rows.{Refusal}
use Rattle.refusal.specs.Rows.{Row, refused, room_rows, ◌else◌, outside}
use Rattle.refusal.proofs.Rows.{◌next◌, number_clear, rows_else, else_zero}
use Rattle.refusal.proofs.Tests.{not_outside}
use Rattle.network.specs.Bytes.{size}
use Rattle.network.specs.Checked.{Checked, IsAccepted}
use Rattle.table.specs.File.{one}
use Rattle.table.specs.Reader.{header_at, file_rows, reading}
use Rattle.table.specs.Laws.{Started}
use Rattle.table.proofs.Proved.{at_most_27}
use Rattle.call.specs.Files.{outcome_refusal, entries_outcome}
use Rattle.call.specs.Calls.{nodes_of, file_after, write_rows, write_refusal, run_rows, run_refusal, entry_rows, entry_refusal}
use Rattle.call.specs.Calls.{nodes_passed, route_refusal, pack_rows, pack_refusal}
use Rattle.call.proofs.Asked.{not_unstarted, route_else}
use Rattle.call.proofs.WayFew.{way_few}
use Rattle.zaqfinell.specs.Numbers.{of_file, NoneOr}
use Rattle.zaqfinell.proofs.Refused.{table_refused}
use Rattle.zaqfinell.proofs.Numbers.{of_file_lem}

-- a room that is as wide as what it takes is not refused
enough : (wide long : ℕ) → long ≤ wide → refused (room_rows wide long) ≡ 0
enough wide long le = rw (le-ltb wide long le)

module _ (net : Checked) (accepted : IsAccepted net) (fit : Accepted net.meant) where
  -- no row after the network's holds
  clear : (rows : List Row) → refused rows ≡ 0 → net.refused else refused rows ≡ 0
  clear rows e = else_zero net.refused (refused rows) accepted ∙ e

  inside : (i : ℕ) → IsNode (nodes_of net) i → outside (nodes_of net) i ≡ false
  inside i at = not_outside (nodes_of net) i at.0 at.1

  -- a file has 27 bytes at most
  pub write_clear : (bs : List ℕ) (i wide : ℕ) → Started net.meant (steps bs) i → 27 ≤ wide → write_refusal net bs i wide ≡ 0
  write_clear bs i wide up le =
      let few = at_most_27 net.meant fit (steps bs) i up in
      let rows = write_rows net.meant (steps bs) i wide in
      clear rows (number_clear rows (inside i up.0 next not_unstarted (phase net.meant (steps bs) i) up.1 next
      le-ltb wide (length (file_after net bs i)) (omega arith) next tt))

  -- 16 nodes have 2 * 16 * 16 numbers
  pub run_clear : (wide : ℕ) → 512 ≤ wide → run_refusal net wide ≡ 0
  run_clear wide le =
      let few = fit.sizes.nodes.1 in
      let all : nodes_of net * nodes_of net ≤ 16 * 16 = mul-le-mul few few in
      clear (run_rows net.meant wide) (enough wide (2 * (nodes_of net * nodes_of net)) (omega arith))

  pub entry_clear : (i y : ℕ) → IsNode (nodes_of net) i → IsNode (nodes_of net) y → entry_refusal net i y ≡ 0
  entry_clear i y at to =
      let rows = entry_rows net.meant i y in
      clear rows (number_clear rows (inside i at next inside y to next tt))

  -- a way passes fewer nodes than there are
  pub route_clear : (bs : List ℕ) (i y wide : ℕ) → IsNode (nodes_of net) i → IsNode (nodes_of net) y → 15 ≤ wide
      → route_refusal net bs i y wide ≡ 0
  route_clear bs i y wide at to le =
      route_else net bs i y wide
      ∙ else_zero (entry_refusal net i y) _ (entry_clear i y at to)
      ∙ enough wide (length (nodes_passed net bs i y)) (omega (arith, way_few net.meant fit (steps bs) i y at))

  -- 240 arcs have 360 bytes, after 3
  pub pack_clear : (wide : ℕ) → 363 ≤ wide → pack_refusal net wide ≡ 0
  pack_clear wide le = clear (pack_rows net.meant wide) (enough wide (size (length net.meant.arcs)) (omega (arith, fit.sizes.arcs)))

-- 13 is none of a file's own
file_not_13 : (N : ℕ) → NoneOr of_file N → N ≢ 13
file_not_13 N (inl e) q = omega arith
file_not_13 N (inr (inl e)) q = omega arith
file_not_13 N (inr (inr (inl e))) q = omega arith
file_not_13 N (inr (inr (inr (inl e)))) q = omega arith
file_not_13 N (inr (inr (inr (inr (inl e))))) q = omega arith
file_not_13 N (inr (inr (inr (inr (inr (inl e)))))) q = omega arith
file_not_13 N (inr (inr (inr (inr (inr (inr p)))))) q = absurd p

-- a file's header has 4 bits for the number of its nodes
pub table_fits : (file room : List ℕ) → 32 ≤ length room → (outcome_refusal (entries_outcome (reading one file) room)).number ≢ 13
unfolding header_at
table_fits file room wide e =
    let long = 2 * (header_at one (bits_of file)).n in
    let short = room_rows (length room) long in
    let told = ap (λ (r : Refusal). r.number) (table_refused file room) ∙ rows_else (file_rows one file) short in
    by_file (refused (file_rows one file)) (file_not_13 (refused (file_rows one file)) (of_file_lem file))
    (refused short) (enough (length room) long (omega (arith, field_below file 8 4)))
    (sym told ∙ e)
  where
    by_file : (N : ℕ) → N ≢ 13 → (M : ℕ) → M ≡ 0 → N else M ≢ 13
    by_file zero n M z e = omega arith
    by_file (suc N) n M z e = n e
