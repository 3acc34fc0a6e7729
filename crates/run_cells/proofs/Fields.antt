-- A store into a field of the code's part is a store at the field's place among its numbers.
use mathlib.Core.Path.{◌≡◌, ap, ◌∙◌}
use mathlib.Core.List.{List, [], ◌∷◌}
use Prim.Native.Nat.{ℕ, ◌+◌, ◌<◌}
use native.Mathlib.Omega.{arith}
use lib.ListN.{length, set}
use Rattle.std.specs.Prelude.{map}
use Rattle.std.proofs.lemmas.List.{map-set, length-map}
use Rattle.method.specs.declared.Filled.{Filled as FilledInCode}
use Rattle.run_cells.specs.declared.Phase.{Phase as PhaseInCode}
use Rattle.run_cells.specs.declared.Part.{Part as PartInCode}
use Rattle.run_cells.specs.Part.{Part, table_size, entry_most, phase_at, sent_count, entry_count, lp_at, last_at, waits_at, delivered_at}
use Rattle.run_cells.specs.Part.{taken_at, sums_at, marks_at, targets_at, distances_at, hops_at, messages_at, block, phase_number}
use Rattle.run_cells.specs.Part.{targets_of, distances_of, hops_of, alone, with_tables, with_lists, numbers}
use Rattle.run_cells.specs.Stores.{upd}
use Rattle.run_cells.proofs.Blocks.{into, under}

-- the same through all blocks above a field
through_lists : (es : List FilledInCode) (ws : List ℕ) (f g : Part) (o v : ℕ) → o < targets_at → f ≡ upd g o v
    → with_lists es ws f ≡ upd (with_lists es ws g) o v
through_lists es ws f g o v lt e =
    ap (with_lists es ws) e
    ∙ ap (λ (h : Part). block messages_at ws (block hops_at (hops_of es) (block distances_at (distances_of es) h)))
    (under targets_at (targets_of es) g o v lt)
    ∙ ap (λ (h : Part). block messages_at ws (block hops_at (hops_of es) h))
    (under distances_at (distances_of es) (block targets_at (targets_of es) g) o v (omega arith))
    ∙ ap (block messages_at ws)
    (under hops_at (hops_of es) (block distances_at (distances_of es) (block targets_at (targets_of es) g)) o v (omega arith))
    ∙ under messages_at ws (block hops_at (hops_of es) (block distances_at (distances_of es) (block targets_at (targets_of es) g))) o v
    (omega arith)

through_tables : (ds ts ss ms : List ℕ) (f g : Part) (o v : ℕ) → o < delivered_at → f ≡ upd g o v
    → with_tables ds ts ss ms f ≡ upd (with_tables ds ts ss ms g) o v
through_tables ds ts ss ms f g o v lt e =
    ap (with_tables ds ts ss ms) e
    ∙ ap (λ (h : Part). block marks_at ms (block sums_at ss (block taken_at ts h))) (under delivered_at ds g o v lt)
    ∙ ap (λ (h : Part). block marks_at ms (block sums_at ss h)) (under taken_at ts (block delivered_at ds g) o v (omega arith))
    ∙ ap (block marks_at ms) (under sums_at ss (block taken_at ts (block delivered_at ds g)) o v (omega arith))
    ∙ under marks_at ms (block sums_at ss (block taken_at ts (block delivered_at ds g))) o v (omega arith)

module _ (p : PartInCode) where
  -- the blocks, each over those before it
  abbrev pub deliveries : Part
  deliveries = block delivered_at p.delivered (alone p)

  abbrev pub takings : Part
  takings = block taken_at p.taken deliveries

  abbrev pub summing : Part
  summing = block sums_at p.sums takings

  abbrev pub marking : Part
  marking = block marks_at p.marks summing

  abbrev pub targeting : Part
  targeting = block targets_at (targets_of p.entries) marking

  abbrev pub distancing : Part
  distancing = block distances_at (distances_of p.entries) targeting

  abbrev pub hopping : Part
  hopping = block hops_at (hops_of p.entries) distancing

  abbrev single : List ℕ
  single = phase_number p.phase ∷ p.sent ∷ p.filled ∷ p.lp ∷ p.last ∷ p.waits ∷ []

  store_alone : (o v : ℕ) → o < delivered_at
      → with_lists p.entries p.messages (with_tables p.delivered p.taken p.sums p.marks (block 0 (set single o v) (λ q. 0)))
      ≡ upd (numbers p) o v
  unfolding numbers
  store_alone o v lt =
      through_lists p.entries p.messages _ _ o v (omega arith)
      (through_tables p.delivered p.taken p.sums p.marks _ _ o v lt
      (into 0 single (λ q. 0) o v lt ∙ ap (λ (n : ℕ). upd (alone p) n v) (omega arith)))

  pub store_phase : (v : PhaseInCode) → numbers (record p { phase = v }) ≡ upd (numbers p) phase_at (phase_number v)
  unfolding numbers
  store_phase v = store_alone phase_at (phase_number v) (omega arith)

  pub store_sent : (v : ℕ) → numbers (record p { sent = v }) ≡ upd (numbers p) sent_count v
  unfolding numbers
  store_sent v = store_alone sent_count v (omega arith)

  pub store_filled : (v : ℕ) → numbers (record p { filled = v }) ≡ upd (numbers p) entry_count v
  unfolding numbers
  store_filled v = store_alone entry_count v (omega arith)

  pub store_lp : (v : ℕ) → numbers (record p { lp = v }) ≡ upd (numbers p) lp_at v
  unfolding numbers
  store_lp v = store_alone lp_at v (omega arith)

  pub store_last : (v : ℕ) → numbers (record p { last = v }) ≡ upd (numbers p) last_at v
  unfolding numbers
  store_last v = store_alone last_at v (omega arith)

  pub store_waits : (v : ℕ) → numbers (record p { waits = v }) ≡ upd (numbers p) waits_at v
  unfolding numbers
  store_waits v = store_alone waits_at v (omega arith)

  -- by head or target
  pub store_delivered : (k v : ℕ) → length p.delivered ≡ table_size → k < table_size
      → numbers (record p { delivered = set p.delivered k v }) ≡ upd (numbers p) (delivered_at + k) v
  unfolding numbers
  store_delivered k v size lt =
      through_lists p.entries p.messages _ _ (delivered_at + k) v (omega arith)
      (ap (λ (h : Part). block marks_at p.marks (block sums_at p.sums (block taken_at p.taken h)))
      (into delivered_at p.delivered (alone p) k v (omega arith))
      ∙ ap (λ (h : Part). block marks_at p.marks (block sums_at p.sums h))
      (under taken_at p.taken deliveries (delivered_at + k) v (omega arith))
      ∙ ap (block marks_at p.marks) (under sums_at p.sums takings (delivered_at + k) v (omega arith))
      ∙ under marks_at p.marks summing (delivered_at + k) v (omega arith))

  pub store_taken : (k v : ℕ) → length p.taken ≡ table_size → k < table_size
      → numbers (record p { taken = set p.taken k v }) ≡ upd (numbers p) (taken_at + k) v
  unfolding numbers
  store_taken k v size lt =
      through_lists p.entries p.messages _ _ (taken_at + k) v (omega arith)
      (ap (λ (h : Part). block marks_at p.marks (block sums_at p.sums h)) (into taken_at p.taken deliveries k v (omega arith))
      ∙ ap (block marks_at p.marks) (under sums_at p.sums takings (taken_at + k) v (omega arith))
      ∙ under marks_at p.marks summing (taken_at + k) v (omega arith))

  pub store_sum : (k v : ℕ) → length p.sums ≡ table_size → k < table_size
      → numbers (record p { sums = set p.sums k v }) ≡ upd (numbers p) (sums_at + k) v
  unfolding numbers
  store_sum k v size lt =
      through_lists p.entries p.messages _ _ (sums_at + k) v (omega arith)
      (ap (block marks_at p.marks) (into sums_at p.sums takings k v (omega arith))
      ∙ under marks_at p.marks summing (sums_at + k) v (omega arith))

  pub store_mark : (k v : ℕ) → length p.marks ≡ table_size → k < table_size
      → numbers (record p { marks = set p.marks k v }) ≡ upd (numbers p) (marks_at + k) v
  unfolding numbers
  store_mark k v size lt =
      through_lists p.entries p.messages _ _ (marks_at + k) v (omega arith) (into marks_at p.marks summing k v (omega arith))

  -- an entry is three numbers
  module _ (k : ℕ) (e : FilledInCode) (size : length p.entries ≡ entry_most) (lt : k < entry_most) where
    abbrev after : List FilledInCode
    after = set p.entries k e

    -- one of the three: f is its field
    field : (b : ℕ) (f : FilledInCode → ℕ) (g : Part) → block b (map f after) g ≡ upd (block b (map f p.entries) g) (b + k) (f e)
    field b f g =
        ap (λ (xs : List ℕ). block b xs g) (map-set f p.entries k e)
        ∙ into b (map f p.entries) g k (f e) (omega (arith, length-map p.entries f))

    target_too : block targets_at (targets_of after) marking ≡ upd targeting (targets_at + k) e.target
    target_too = field targets_at (λ x. x.target) marking

    distance_too : block distances_at (distances_of after) (block targets_at (targets_of after) marking)
        ≡ upd (upd distancing (targets_at + k) e.target) (distances_at + k) e.distance
    distance_too =
        field distances_at (λ x. x.distance) (block targets_at (targets_of after) marking)
        ∙ ap (λ (f : Part). upd f (distances_at + k) e.distance)
        (ap (block distances_at (distances_of p.entries)) target_too
        ∙ under distances_at (distances_of p.entries) targeting (targets_at + k) e.target (omega arith))

    hop_too : block hops_at (hops_of after) (block distances_at (distances_of after) (block targets_at (targets_of after) marking))
        ≡ upd (upd (upd hopping (targets_at + k) e.target) (distances_at + k) e.distance) (hops_at + k) e.hop
    hop_too =
        field hops_at (λ x. x.hop) (block distances_at (distances_of after) (block targets_at (targets_of after) marking))
        ∙ ap (λ (f : Part). upd f (hops_at + k) e.hop)
        (ap (block hops_at (hops_of p.entries)) distance_too
        ∙ under hops_at (hops_of p.entries) (upd distancing (targets_at + k) e.target) (distances_at + k) e.distance (omega arith)
        ∙ ap (λ (f : Part). upd f (distances_at + k) e.distance)
        (under hops_at (hops_of p.entries) distancing (targets_at + k) e.target (omega arith)))

    pub store_entry : numbers (record p { entries = after })
        ≡ upd (upd (upd (numbers p) (targets_at + k) e.target) (distances_at + k) e.distance) (hops_at + k) e.hop
    unfolding numbers
    store_entry =
        ap (block messages_at p.messages) hop_too
        ∙ under messages_at p.messages (upd (upd hopping (targets_at + k) e.target) (distances_at + k) e.distance) (hops_at + k) e.hop
        (omega arith)
        ∙ ap (λ (f : Part). upd f (hops_at + k) e.hop)
        (under messages_at p.messages (upd hopping (targets_at + k) e.target) (distances_at + k) e.distance (omega arith)
        ∙ ap (λ (f : Part). upd f (distances_at + k) e.distance)
        (under messages_at p.messages hopping (targets_at + k) e.target (omega arith)))

  pub store_message : (k v : ℕ) → k < length p.messages
      → numbers (record p { messages = set p.messages k v }) ≡ upd (numbers p) (messages_at + k) v
  unfolding numbers
  store_message k v lt = into messages_at p.messages _ k v lt
