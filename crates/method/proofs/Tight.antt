-- How much a node sends at most, law l: the lengths sent lie between that of the shortest arc and the last one, and the first record is
-- no farther than the shortest arc is long.
use mathlib.Core.Path.{◌≡◌, refl, sym, ap, subst, ◌∙◌}
use mathlib.Core.Logic.{inl, inr, ◌≢◌}
use mathlib.Core.Option.{Option, none, some}
use mathlib.Core.List.{List, [], ◌∷◌, ◌++◌}
use Prim.Native.Nat.{ℕ, suc, ◌+◌, ◌-◌, ◌*◌, ◌≤◌, ◌<◌, zero-le}
use native.Mathlib.Nat.{mul-le-mul, mul-le-mul_right}
use native.Mathlib.Omega.{arith}
use lib.ListN.{length}
use Rattle.method.specs.Network.{Net, IsNode, IsArc, Sizes, Valid}
use Rattle.method.specs.Distance.{here, via}
use Rattle.method.specs.Message.{Msg, label, len, end, finite, last_len, send_len}
use Rattle.method.specs.Rules.{Filled, Node, Choice, rule₁}
use Rattle.method.specs.Bounds.{most_sent}
use Rattle.method.specs.Invariant.{Has, lengths, ends, ends_sent, Ok, AtLeast, Spread}
use Rattle.method.proofs.Sent.{Sending, sending, send_len_last, parts, ends_le}
use Rattle.method.proofs.Choosing.{Before, Chosen, rule₁_ok}
use Rattle.method.proofs.Table.{targets_length}
use Rattle.method.proofs.View.{started_unstarted}
use Rattle.method.proofs.Acts.{near, floor}
use Rattle.method.proofs.Keeping.{Acting, Keeps}
use Rattle.method.proofs.Lawful.{Lawful}
use Rattle.method.proofs.Bounded.{table_few}

-- a length of m or more, no less than the last
send_len_many : (s : List Msg) (x m : ℕ) → lengths s ≤ suc (last_len s) - m → last_len s ≤ x → m ≤ x → lengths (send_len s x) ≤ suc x - m
send_len_many s x m few le at_least_lem = go (sending s x)
  where
    go : Sending s x (send_len s x) → lengths (send_len s x) ≤ suc x - m
    go (inl e) = let q = ap lengths e.0 in omega (arith, e.1)
    go (inr e) = let q = ap lengths e.0 in let ne : last_len s ≢ x = e.1 in omega arith

module _ (net : Net) (va : Valid net) where
  module _ (i : ℕ) (T : ℕ → List Msg) (nd : Node) (p : Choice) (at : Acting net i T nd p) where
    -- the chosen sum is no less than the shortest arc
    sum_many : Spread net i nd → (m : ℕ) → AtLeast net i m → lengths (send_len nd.sent p.sum) ≤ suc p.sum - m
    sum_many sp m le =
        let f = at.chosen.0 in
        send_len_many nd.sent p.sum m (sp.many m le) (floor net i T nd at.ok at.known at.up p at.chosen)
        (omega (arith, f.sum_is, le p.head f.len f.arc))

    -- beside its own entry alone, a node nearer than the chosen sum would have an entry: so no arc is shorter
    fill_near : (es : List Filled) → nd.table ≡ es → Has i es → (j l : ℕ) → IsArc net.arcs i j l
        → nd.lp ≤ l + (length es - 2) * net.lmax → p.sum ≤ l + (suc (length es) - 2) * net.lmax
    fill_near [] e own j l a le = absurd own
    fill_near (f ∷ []) e own j l a le = let q : ¬ (l < p.sum) = λ lt. beside lt in omega arith
      where
        only : (y : ℕ) → Has y (f ∷ []) → y ≡ f.target
        only y (inr x6) = elim x6 [ ]
        only y (inl q) = q

        beside : l < p.sum → ⊥
        beside lt =
            let w : l ≡ l + 0 = omega arith in
            let h = near net i T nd at.ok at.known at.up p at.chosen j l (via j l 0 a (here refl refl) w) lt in
            va.apart i j l a (only i own ∙ sym (only j (subst (λ (r : List Filled). Has j r) e h)))
    fill_near (f ∷ g ∷ es) e own j l a le =
        let was : (length (f ∷ g ∷ es) - 2) * net.lmax ≡ length es * net.lmax = ap (λ (k : ℕ). k * net.lmax) (omega arith) in
        let now : (suc (length (f ∷ g ∷ es)) - 2) * net.lmax ≡ suc (length es) * net.lmax = ap (λ (k : ℕ). k * net.lmax) (omega arith) in
        omega (arith, at.close)

  pub spread : Keeps net (Spread net)
  spread =
      record {
        at_first = λ i. record { last_le = zero-le; lp_le = λ j l a. zero-le; many = λ m le. zero-le };
        at_start = λ i. record { last_le = zero-le; lp_le = λ j l a. zero-le; many = λ m le. zero-le };
        at_stop = λ i nd sp. record { last_le = sp.last_le; lp_le = sp.lp_le; many = sp.many };
        at_wait =
            λ i T nd p at sp.
            let e = send_len_last nd.sent p.sum in
            record {
              last_le = omega (arith, at.close);
              lp_le = sp.lp_le;
              many = λ m le. omega (arith, sum_many i T nd p at sp m le);
            };
        at_fill =
            λ i T nd p y at new told sp.
            let e = send_len_last nd.sent p.sum in
            let own = at.ok.own (λ q. started_unstarted nd.phase at.up q) in
            record {
              last_le = omega arith;
              lp_le = λ j l a. fill_near i T nd p at nd.table refl own j l a (sp.lp_le j l a);
              many = λ m le. omega (arith, sum_many i T nd p at sp m le);
            };
      }

  module _ (i : ℕ) (nd : Node) (holds : Spread net i nd) where
    -- rule 1, where nothing is heard yet, finds the shortest arc
    lengths_tight : (o : Option Choice) → Chosen net.rank (λ h. finite 0) (λ j l. IsArc net.arcs i j l) o
        → length nd.table ≤ net.n → lengths nd.sent ≤ (net.n - 1) * net.lmax + 1
    lengths_tight none ch few =
        let no_arc_lem : AtLeast net i (suc (last_len nd.sent)) = λ j l a. let z : ◌≡◌ {A = ℕ} 0 1 = cc (ch j l a) in
        absurd (omega arith) in
        omega (arith, holds.many (suc (last_len nd.sent)) no_arc_lem)
    lengths_tight (some p) ch few =
        let f = ch.0 in
        let zero_now : f.now ≡ 0 = cc f.item_is in
        let two : 2 ≤ net.n = two_nodes p.head f.len f.arc in
        let e : (net.n - 1) * net.lmax ≡ suc (net.n - 2) * net.lmax = ap (λ (k : ℕ). k * net.lmax) (omega arith) in
        let grows : (length nd.table - 2) * net.lmax ≤ (net.n - 2) * net.lmax = mul-le-mul_right net.lmax (omega arith) in
        omega (arith, holds.many f.len (λ j l a. shortest j l a), holds.lp_le p.head f.len f.arc, holds.last_le)
      where
        two_nodes : (j l : ℕ) → IsArc net.arcs i j l → 2 ≤ net.n
        two_nodes j l a = let ne : i ≢ j = va.apart i j l a in omega (arith, va.tails i j l a, va.heads i j l a)

        shortest : AtLeast net i ch.0.len
        shortest j l a = go (ch.1 j l 0 a refl)
          where
            go : Before net.rank p.sum p.head (l + 0) j → ch.0.len ≤ l
            go (inl lt) = omega (arith, ch.0.sum_is)
            go (inr eq) = omega (arith, ch.0.sum_is)

    -- lengths, a label for each entry, and one end when it has stopped
    pub sent_within : IsNode net.n i → (T : ℕ → List Msg) → Ok net i T nd
        → length nd.sent ≤ (net.n - 1) * net.lmax + net.n + 1 + ends_sent nd.phase
    sent_within at T ok =
        let few = table_few net va i at T nd ok in
        omega (
          arith,
          parts nd.sent,
          ap length ok.each,
          targets_length nd.table,
          lengths_tight (rule₁ net.rank i (λ h. finite 0) net.arcs) (rule₁_ok net.rank (λ h. finite 0) i net.arcs) few,
          ok.ended,
        )

  pub sent_tight : (nodes : ℕ → Node) (lawful : Lawful net nodes) (i : ℕ) → IsNode net.n i
      → length (nodes i).sent ≤ most_sent net
  sent_tight nodes lawful i at =
      omega (
        arith,
        sent_within i (nodes i) (lawful.keeps (Spread net) spread i) at (lawful.view i) (lawful.ok i),
        ends_le (nodes i).phase,
      )

-- in the largest house
pub at_most_243 : (net : Net) → Sizes net → most_sent net ≤ 243
at_most_243 net small =
    let fewer : net.n - 1 ≤ 15 = omega (arith, small.nodes.1) in
    let product : (net.n - 1) * net.lmax ≤ 15 * 15 = mul-le-mul fewer small.lengths.1 in
    omega (arith, small.nodes.1)

-- A list that grows to one with room for an end had that room before: so what a node will have sent when its work is done bounds what it
-- has sent on the way.
pub within_before : (k : ℕ) (e s : List Msg) → length (e ++ s) < k + ends (e ++ s) → length s < k + ends s
within_before k [] s lt = lt
within_before k (label y ∷ e) s lt = within_before k e s (omega arith)
within_before k (len x ∷ e) s lt = within_before k e s (omega arith)
within_before k (end ∷ e) s lt = within_before k e s (omega arith)
