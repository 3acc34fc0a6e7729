-- The way as the code writes it: hop by hop into the room.
use mathlib.Core.Path.{◌≡◌, refl, sym, ap, subst, ◌∙◌}
use mathlib.Core.Logic.{◌⊎◌, inl, inr, ◌≢◌}
use mathlib.Core.List.{List, ◌∷◌}
use Prim.Native.Nat.{ℕ, ◌+◌, ◌≤◌, ◌<◌}
use native.Mathlib.Omega.{arith}
use native.Mathlib.Numerals.{add-one}
use lib.ListN.{length, set, length-set}
use lib.Seq.{sets}
use Rattle.method.specs.Steps.{steps}
use Rattle.method.specs.declared.Entry.{Entry as CodeEntry}
use Rattle.method.specs.declared.Entry.TheVariants.{Unknown, Unreachable, Known}
use Rattle.method.specs.Meant.{meant}
use Rattle.method.specs.Entries.{Entry}
use Rattle.method.specs.Marks.{distance_of}
use Rattle.network.specs.Layout.{net_of}
use Rattle.run_cells.specs.Part.{Part, table_size, state_of}
use Rattle.run_cells.specs.Caches.{Readable}
use Rattle.method.specs.Entries.{entry_of}
use Rattle.method.specs.Route.{distance_to, hop_to, route, passed, way}
use Rattle.method.specs.Room.{begins}
use Rattle.method.proofs.Room.{sets_begins}
use Rattle.run_route.specs.Asked.{Asked, OnWay}
use Rattle.method.proofs.Following.{On, nearer, route_here, route_next}

-- what reading asks for
module _ (m : ℕ → Part) (i y : ℕ) (q : Asked m i y) where
  pub readable : (1 ≤ i) × (i < table_size) × (y < table_size) × Readable (m i)
  readable = (
    q.node.0,
    omega (arith, q.node, q.accepted.sizes.nodes.1),
    omega (arith, q.target, q.accepted.sizes.nodes.1),
    q.ran.readable i q.node,
  )

  -- the code's entry says what kind it is
  module _ (r : CodeEntry) (is : meant r ≡ entry_of (state_of m i).node y) where
    pub says_filled : (d h : ℕ) → r ≡ Known d h → OnWay m i y
    says_filled d h e = record { asked = q; distance = d; hop = h; filled = sym is ∙ ap meant e }

    -- no node is passed
    pub says_none : (room : List ℕ) → (r ≡ Unknown) ⊎ (r ≡ Unreachable)
        → (0 ≡ length (way (state_of m) y i)) × (room ≡ begins (way (state_of m) y i) room)
    says_none room (inl e) = rw (sym is ∙ ap meant e) (refl, refl)
    says_none room (inr e) = rw (sym is ∙ ap meant e) (refl, refl)

module _ (m : ℕ → Part) (i y : ℕ) (w : OnWay m i y) where
  on : On (net_of w.asked.net) w.asked.accepted (steps w.asked.bytes) (state_of m) w.asked.ran.state y i
  on = record { node = w.asked.node; distance = w.distance; hop = w.hop; filled = w.filled }

  -- the way is the route
  way_is : way (state_of m) y i ≡ route (state_of m) y i
  way_is = ap (λ (x : Entry). passed x (route (state_of m) y i)) w.filled

  module _ (room : List ℕ) (wide : length (way (state_of m) y i) ≤ length room) where
    pub fits : 0 + length (route (state_of m) y i) ≤ length room
    fits = omega (arith, ap length way_is)

    pub way_laid : (room' : List ℕ) (r : ℕ) → r ≡ 0 + length (route (state_of m) y i)
        → room' ≡ sets room 0 (route (state_of m) y i)
        → (r ≡ length (way (state_of m) y i)) × (room' ≡ begins (way (state_of m) y i) room)
    way_laid room' r er e = (
      omega (arith, ap length way_is),
      e ∙ sets_begins (route (state_of m) y i) room (omega (arith, fits)) ∙ sym (ap (λ (xs : List ℕ). begins xs room) way_is),
    )

  -- at the target
  pub arrives : i ≡ y → (at : ℕ) (room : List ℕ)
      → (at ≡ at + length (route (state_of m) y i)) × (room ≡ sets room at (route (state_of m) y i))
  arrives z at room =
      let n = route_here (net_of w.asked.net) w.asked.accepted (steps w.asked.bytes) (state_of m) w.asked.ran.state y i z in
      (omega (arith, ap length n), ap (sets room at) (sym n))

  -- one hop, to h
  module _ (ne : i ≢ y) (h : ℕ) (eh : h ≡ hop_to (state_of m) y i) where
    step : (v : On (net_of w.asked.net) w.asked.accepted (steps w.asked.bytes) (state_of m)
        w.asked.ran.state y h) × (v.distance < w.distance)
    unfolding on
    step =
        subst (λ (k : ℕ). (v : On (net_of w.asked.net) w.asked.accepted (steps w.asked.bytes) (state_of m)
        w.asked.ran.state y k) × (v.distance < w.distance)) (sym eh)
        (nearer (net_of w.asked.net) w.asked.accepted (steps w.asked.bytes) (state_of m) w.asked.ran.state y i on ne)

    pub onward : OnWay m h y
    onward =
        record {
          asked = record {
            net = w.asked.net;
            bytes = w.asked.bytes;
            counts = w.asked.counts;
            accepted = w.asked.accepted;
            ran = w.asked.ran;
            node = step.0.node;
            target = w.asked.target;
          };
          distance = step.0.distance;
          hop = step.0.hop;
          filled = step.0.filled;
        }

    pub nears : distance_to (state_of m) y h < distance_to (state_of m) y i
    nears = omega (arith, step.1, ap distance_of step.0.filled, ap distance_of w.filled)

    pub h_low : h ≤ 16
    h_low = omega (arith, step.0.node, w.asked.accepted.sizes.nodes.1)

    route_is : route (state_of m) y i ≡ h ∷ route (state_of m) y h
    route_is =
        route_next (net_of w.asked.net) w.asked.accepted (steps w.asked.bytes) (state_of m) w.asked.ran.state y i on ne
        ∙ ap (λ (k : ℕ). k ∷ route (state_of m) y k) (sym eh)

    module _ (at : ℕ) (room : List ℕ) (le : at + length (route (state_of m) y i) ≤ length room) where
      pub inside : at < length room
      inside = omega (arith, ap length route_is)

      pub room_left : at + 1 + length (route (state_of m) y h) ≤ length (set room at h)
      room_left = omega (arith, ap length route_is, length-set room at h)

      pub written : (r : ℕ) (room' : List ℕ) → r ≡ at + 1 + length (route (state_of m) y h)
          → room' ≡ sets (set room at h) (at + 1) (route (state_of m) y h)
          → (r ≡ at + length (route (state_of m) y i)) × (room' ≡ sets room at (route (state_of m) y i))
      written r room' er e = (
        omega (arith, ap length route_is),
        e ∙ ap (λ (k : ℕ). sets (set room at h) k (route (state_of m) y h)) (add-one at)
            ∙ ap (sets room at) (sym route_is),
      )
