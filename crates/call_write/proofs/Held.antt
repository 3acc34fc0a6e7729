-- The entries after a node's first are the records that the writer is lent.
use mathlib.Core.Path.{◌≡◌, refl, sym, ap, ap₂, ◌∙◌}
use mathlib.Core.Bool.{Bool}
use mathlib.Core.List.{List, ◌∷◌}
use Prim.Native.Nat.{ℕ, zero, suc, ◌+◌, ◌-◌, ◌≤◌, ◌<◌}
use native.Mathlib.Omega.{arith}
use native.Mathlib.Numerals.{add-one}
use lib.ListN.{length, get_or, take, drop, length-drop, get_or-map}
use lib.Seq.{get_or-drop}
use Rattle.method.specs.Rules.{Filled}
use Rattle.method.specs.Meant.{filled}
use Rattle.method.specs.declared.Filled.{Filled as FilledInCode}
use Rattle.method.specs.Entries.{is_stopped}
use Rattle.network.specs.Layout.{net_of}
use Rattle.network.specs.declared.Layout.{Layout}
use Rattle.run_cells.specs.declared.Part.{Part as PartInCode}
use Rattle.run_cells.specs.declared.State.{State}
use Rattle.run_cells.specs.Part.{Part, entry_most, entry_count, targets_at, distances_at, hops_at, cells, entry_at, site_of, numbers}
use Rattle.run_cells.proofs.Cleared.{nobody}
use Rattle.run_cells.proofs.Loads.{filled_is, target_is, distance_is, hop_is}
use Rattle.run_cells.proofs.Stored.{blank, Placed, own_part}
use Rattle.table.specs.File.{one, file_of, header_for}
use Rattle.table_writer.specs.Lent.{newest_first, lent_file}
use Rattle.table_writer.proofs.Writing.{newest_more}
use Rattle.call_write.specs.Filing.{after_first, held_file}

module _ (s : State) (i : ℕ) (pos : 1 ≤ i) (placed : Placed s i) where
  abbrev p : PartInCode
  p = get_or s.parts (i - 1) blank

  own : cells s i ≡ numbers p
  own = own_part s i blank pos placed

  pub count_is : cells s i entry_count ≡ p.filled
  count_is = ap (λ (f : Part). f entry_count) own ∙ filled_is p

  entry_is : (k : ℕ) → k < entry_most → filled (get_or p.entries k nobody) ≡ entry_at (cells s i) k
  entry_is k lt =
      let t : cells s i (targets_at + k) ≡ (get_or p.entries k nobody).target =
      ap (λ (f : Part). f (targets_at + k)) own ∙ target_is p k lt ∙ get_or-map (λ (e : FilledInCode). e.target) p.entries k nobody in
      let d : cells s i (distances_at + k) ≡ (get_or p.entries k nobody).distance =
      ap (λ (f : Part). f (distances_at + k)) own ∙ distance_is p k lt
      ∙ get_or-map (λ (e : FilledInCode). e.distance) p.entries k nobody in
      let h : cells s i (hops_at + k) ≡ (get_or p.entries k nobody).hop =
      ap (λ (f : Part). f (hops_at + k)) own ∙ hop_is p k lt ∙ get_or-map (λ (e : FilledInCode). e.hop) p.entries k nobody in
      rw (t, d, h)

  after : (k : ℕ) → k < entry_most → k < length p.entries → newest_first (take k (drop 1 p.entries)) ≡ after_first (cells s i) k
  after zero lt few = refl
  after (suc k) lt few =
      let rest : length (drop 1 p.entries) ≡ length p.entries - 1 = length-drop 1 p.entries in
      ap (λ (j : ℕ). newest_first (take j (drop 1 p.entries))) (sym (add-one k))
      ∙ newest_more (drop 1 p.entries) k nobody (omega (arith, rest))
      ∙ ap₂ (λ (e : FilledInCode) (es : List Filled). filled e ∷ es) (get_or-drop 1 p.entries k nobody
      ∙ ap (λ (j : ℕ). get_or p.entries j nobody) (omega arith))
      (after k (omega arith) (omega arith))
      ∙ ap (λ (e : Filled). e ∷ after_first (cells s i) k) (entry_is (suc k) lt)

  -- so the file of these records is the one that the part holds
  pub lent_held : (g : Layout) (records : List FilledInCode) (mark : Bool) → 1 ≤ p.filled → p.filled ≤ 16 → length p.entries ≡ 16
      → records ≡ take (p.filled - 1) (drop 1 p.entries) → mark ≡ is_stopped (site_of (cells s i))
      → lent_file (header_for (net_of g) i) records mark ≡ held_file g i (cells s i)
  lent_held g records mark some few sixteen is em =
      ap₂ (file_of one (header_for (net_of g) i))
      (ap newest_first is ∙ after (p.filled - 1) (omega arith) (omega arith)
      ∙ ap (λ (k : ℕ). after_first (cells s i) (k - 1)) (sym count_is))
      em
