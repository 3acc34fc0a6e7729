-- The bytes of what is laid out, written into a room.
use mathlib.Core.Path.{◌≡◌, refl, sym, ◌∙◌, ap}
use mathlib.Core.Logic.{inl, inr}
use mathlib.Core.List.{List, [], ◌∷◌}
use Prim.Native.Nat.{ℕ, zero, suc, ◌+◌, ◌-◌, ◌*◌, ◌/◌, ◌%◌, ◌≤◌, ◌<◌}
use Rattle.std.proofs.Common.{Ok, Err}
use Rattle.refusal.specs.Told.{number_of}
use Rattle.refusal.specs.declared.Reason.{Reason}
use native.Mathlib.Omega.{arith}
use native.Mathlib.Nat.{zero-add}
use lib.ListN.{length, set}
use lib.Seq.{sets, sets-eq}
use Rattle.bits.proofs.Bytes.{length_packed}
use Rattle.method.specs.Room.{begins}
use Rattle.network.specs.Bytes.{size, net_bits}
use Rattle.method.specs.Network.{Arc, Net}
use Rattle.method.proofs.Room.{left_alone}
use Rattle.refusal.specs.Rows.{refused, room_rows}
use Rattle.refusal.proofs.Rows.{else_some}
use Rattle.network.specs.Checked.{Checked}
use Rattle.network.specs.Layout.{arc_at, arcs_from, net_of}
use Rattle.network.specs.declared.Layout.{Layout}
use Rattle.network.specs.declared.Network.{Network}
use Rattle.network.proofs.Laws.{laid, sizes}
use Rattle.network.proofs.LaidOut.{arc_count}
use Rattle.network.specs.Found.{Finds}
use Rattle.network.specs.Fits.{Fits, AllFit}
use Rattle.call.specs.Calls.{net_bytes, pack_refusal}
use Rattle.call.specs.Promises.{PackPromise}
use Rattle.call.proofs.Found.{refused_first, is_refused, others_tell}
use borrow.Author.Tests.{lt-ltb, le-ltb}
use Rattle.network_pack.specs.Pairs.{halves, pair_bytes}
use Rattle.network_pack.proofs.Pairs.{bytes_in_pairs}

-- the arcs that are laid out from arc k on
abbrev pub rest : Layout → ℕ → ℕ → List Arc
rest g m k = arcs_from g k (m - k)

rest_more : (g : Layout) (m k : ℕ) → k < m → rest g m k ≡ arc_at g k ∷ rest g m (k + 1)
rest_more g m k h =
    let e : m - k ≡ suc (m - (k + 1)) = omega arith in
    let s : suc k ≡ k + 1 = omega arith in
    rw (e, s)

rest_none : (g : Layout) (m k : ℕ) → m ≤ k → rest g m k ≡ []
rest_none g m k h = let e : m - k ≡ 0 = omega arith in rw e

-- the three bytes of two arcs, stored one after the other
pub pair_stored : (room : List ℕ) (p x y z : ℕ) (a b : Arc) → x ≡ halves (a.tail - 1) (a.head - 1) → y ≡ halves a.len (b.tail - 1)
    → z ≡ halves (b.head - 1) b.len
    → set (set (set room p x) (p + 1) y) (p + 2) z ≡ sets room p (pair_bytes (a ∷ b ∷ []))
unfolding pair_bytes
pair_stored room p x y z a b ex ey ez =
    let e₁ : p + 1 ≡ suc p = omega arith in
    let e₂ : p + 2 ≡ suc (suc p) = omega arith in
    rw (e₁, e₂, ex, ey, ez)

-- and the two of an odd last one
pub last_stored : (room : List ℕ) (p x y : ℕ) (a : Arc) → x ≡ halves (a.tail - 1) (a.head - 1) → y ≡ halves a.len 0
    → set (set room p x) (p + 1) y ≡ sets room p (pair_bytes (a ∷ []))
unfolding pair_bytes
last_stored room p x y a ex ey =
    let e : p + 1 ≡ suc p = omega arith in
    rw (e, ex, ey)

-- two arcs more are written
pub pair_written : (g : Layout) (room next : List ℕ) (m k : ℕ) (a b : Arc) → k < m / 2 → a ≡ arc_at g (2 * k) → b ≡ arc_at g (2 * k + 1)
    → next ≡ sets room (3 + 3 * k) (pair_bytes (a ∷ b ∷ []))
    → sets next (3 + 3 * (k + 1)) (pair_bytes (rest g m (2 * (k + 1)))) ≡ sets room (3 + 3 * k) (pair_bytes (rest g m (2 * k)))
unfolding pair_bytes
pair_written g room next m k a b h ea eb e =
    let s : 3 + 3 * (k + 1) ≡ suc (suc (suc (3 + 3 * k))) = omega arith in
    let t : 2 * (k + 1) ≡ 2 * k + 1 + 1 = omega arith in
    rw (t, rest_more g m (2 * k) (omega arith), rest_more g m (2 * k + 1) (omega arith), e, ea, eb, s)

-- the last arc is written
pub last_written : (g : Layout) (room next : List ℕ) (m : ℕ) (a : Arc) → m % 2 ≡ 1 → a ≡ arc_at g (m - 1)
    → next ≡ sets room (3 + 3 * (m / 2)) (pair_bytes (a ∷ [])) → next ≡ sets room (3 + 3 * (m / 2)) (pair_bytes (rest g m (2 * (m / 2))))
last_written g room next m a odd ea e =
    let k : m - 1 ≡ 2 * (m / 2) = omega arith in
    rw (rest_more g m (2 * (m / 2)) (omega arith), rest_none g m (2 * (m / 2) + 1) (omega arith), ← k, ← ea) e

-- none is left
pub all_written : (g : Layout) (room : List ℕ) (m : ℕ) → m % 2 ≡ 0
    → room ≡ sets room (3 + 3 * (m / 2)) (pair_bytes (rest g m (2 * (m / 2))))
unfolding pair_bytes
all_written g room m even = rw (rest_none g m (2 * (m / 2)) (omega arith))

-- what is known of a network that is accepted
module _ (net : Network) where
  abbrev g : Layout
  g = net.layout

  pub arcs_fit : AllFit (net_of g).arcs
  arcs_fit i j l a =
      let v = (laid net).accepted.valid in
      omega (arith, sizes net, v.tails i j l a, v.heads i j l a, v.short i j l a)

  -- each arc is one of them
  pub arc_fits : (k : ℕ) → k < g.count → Fits (arc_at g k)
  arc_fits k h = rw (zero-add k) at (fits 0 g.count k h arcs_fit)
    where
      fits : (a m k : ℕ) → k < m → AllFit (arcs_from g a m) → Fits (arc_at g (a + k))
      fits a zero k h f = absurd (omega arith)
      fits a (suc m) zero h f = let e : a + 0 ≡ a = omega arith in rw e (f _ _ _ (inl (refl, refl, refl)))
      fits a (suc m) (suc k) h f =
          let e : a + suc k ≡ suc a + k = omega arith in rw e (fits (suc a) m k (omega arith) (λ i j l r. f i j l (inr r)))

  -- the header and the arcs are written
  pub whole_written : (room next : List ℕ) (x y : ℕ) → size g.count ≤ length room → x ≡ halves 1 (g.nodes - 1)
      → y ≡ halves g.lmax 0
      → next ≡ sets (set (set (set room 0 x) 1 y) 2 g.count) 3 (pair_bytes (net_of g).arcs)
      → next ≡ begins (net_bytes (net_of g)) room
  whole_written room next x y fits ex ey e =
      let s : List ℕ = net_bytes (net_of g) in
      let l : length s ≡ size (length (net_of g).arcs) =
      length_packed (size (length (net_of g).arcs)) (net_bits g.nodes g.lmax (net_of g).arcs) in
      let c : size (length (net_of g).arcs) ≡ size g.count = ap size (arc_count g) in
      let b : s ≡ x ∷ y ∷ g.count ∷ pair_bytes (net_of g).arcs =
      bytes_in_pairs g.nodes g.lmax (net_of g).arcs (sizes net).1 (sizes net).2 (omega (arith, sizes net, arc_count g)) arcs_fit
      ∙ rw (ex, ey, arc_count g) in
      e ∙ ap (sets room 0) (sym b) ∙ sets-eq s room 0 (omega (arith, sizes net, arc_count g)) ∙ rw (zero-add (length s))

-- what was found is refused
pub packs_nothing : (net : Checked) (reason : Reason) (room : List ℕ) → Finds net (Err reason)
    → PackPromise net room (number_of reason) room
packs_nothing net reason room is =
    let q = refused (room_rows (length room) (size (length net.meant.arcs))) in
    record {
      answer = refused_first net reason is q ∙ sym (else_some (pack_refusal net (length room)) _ (is_refused net reason is q));
      left = sym (left_alone (pack_refusal net (length room)) room _ (is_refused net reason is q));
    }

-- or the room is short, or all is written
module _ (net : Checked) (found : Network) (is : Finds net (Ok found)) (room : List ℕ) where
  bytes_count : size found.layout.count ≡ size (length net.meant.arcs)
  bytes_count = ap size (sym (arc_count found.layout)) ∙ ap (λ (a : Net). size (length a.arcs)) is.meant

  pub packs_short : length room < size found.layout.count → PackPromise net room 13 room
  packs_short lt =
      let e : pack_refusal net (length room) ≡ 13 = others_tell net found is _
      ∙ rw (lt-ltb (length room) (size (length net.meant.arcs)) (omega (arith, bytes_count))) in
      record { answer = rw e; left = rw e }

  pub packs_all : (next : List ℕ) (k : ℕ) → size found.layout.count ≤ length room → k ≡ size found.layout.count
      → next ≡ begins (net_bytes (net_of found.layout)) room
      → PackPromise net room (256 * k + 65536 * 0) next
  packs_all next k le ek en =
      let e : pack_refusal net (length room) ≡ 0 = others_tell net found is _
      ∙ rw (le-ltb (length room) (size (length net.meant.arcs)) (omega (arith, bytes_count))) in
      record {
        answer = rw (e, ek, bytes_count);
        left = rw (e, ← is.meant) en;
      }
