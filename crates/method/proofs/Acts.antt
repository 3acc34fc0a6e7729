-- What has an entry when a node takes its turn. A node that stops, waits, or takes what makes nothing known keeps what holds of it.
use mathlib.Core.Path.{◌≡◌, refl, sym, ap, subst, ◌∙◌}
use mathlib.Core.Logic.{◌⊎◌, inl, inr}
use mathlib.Core.Bool.{Bool, true, false, cond}
use mathlib.Core.Option.{none, some}
use mathlib.Core.List.{List, ◌∷◌}
use Prim.Native.Nat.{ℕ, suc, ◌+◌, ◌*◌, ◌≤◌, ◌<◌}
use native.Mathlib.Omega.{arith}
use lib.Dec.{eqb}
use lib.ListN.{length}
use borrow.Author.Tests.{eqb-true}
use Rattle.method.specs.Network.{Net, IsArc, Valid}
use Rattle.method.specs.Distance.{Chain, here, via}
use Rattle.method.specs.Message.{Msg, label, len, end, Item, finite, infinite, last_len, item, send_len}
use Rattle.method.specs.Rules.{Filled, started, stopped, Node, Choice, stop, wait}
use Rattle.method.specs.Distinct.{Among}
use Rattle.method.specs.Invariant.{In, Has, Labelled, Complete, Good, ends_sent, Ok}
use Rattle.method.proofs.Sent.{Under, complete, item_last_len, send_len_last, send_len_labels, send_len_ends}
use Rattle.method.proofs.Sent.{send_len_good}
use Rattle.method.proofs.Choosing.{Before, before_more}
use Rattle.method.proofs.Chains.{snoc}
use Rattle.method.proofs.Table.{has_entry, paced_top}
use Rattle.method.proofs.View.{Chooses, with, Passed, started_unstarted, started_stopped, stopped_unstarted}

-- a label once taken stays
labelled_with : (T : ℕ → List Msg) (h : ℕ) (m : Msg) (y k : ℕ) → Labelled y (T k) → Labelled y (with T h m k)
labelled_with T h m y k w = go m (eqb k h)
  where
    go : (m : Msg) (b : Bool) → Labelled y (cond b (m ∷ T k) (T k))
    go (label z) true = inr w
    go (len x) true = w
    go end true = w
    go m false = w

module _ (net : Net) (i : ℕ) (T : ℕ → List Msg) (nd : Node) (ok : Ok net i T nd) (true_lists : (j : ℕ) → Good net.arcs j (T j))
    (up : nd.phase ≡ started) where
  pub own_entry : Has i nd.table
  own_entry = ok.own (λ e. started_unstarted nd.phase up e)

  pub reached : nd.lp + net.lmax ≤ length nd.table * net.lmax
  reached = ok.reach (λ e. started_unstarted nd.phase up e)

  sent_label : (y : ℕ) → Has y nd.table → Labelled y nd.sent
  sent_label y h = subst (λ (xs : List ℕ). Among y xs) (sym ok.each) h

  pub kept_traced : (h : ℕ) (m : Msg) (e : Filled) → In e nd.table → (e.target ≡ i) ⊎ Labelled e.target (with T h m e.hop)
  kept_traced h m e w = go (ok.traced e w)
    where
      go : (e.target ≡ i) ⊎ Labelled e.target (T e.hop) → (e.target ≡ i) ⊎ Labelled e.target (with T h m e.hop)
      go (inl q) = inl q
      go (inr l) = inr (labelled_with T h m e.target e.hop l)

  -- the head of an arc has labelled what is under its item, so that has an entry here
  under : (j y t : ℕ) → Chain net.arcs j y t → Under t (item (T j)) → Has y nd.table
  under j y t c u = ok.heard j y (complete net.arcs j (T j) (true_lists j) y t c u)

  -- where every arc from i gives more than d, what is d away or nearer has an entry
  behind : (y d : ℕ) → Chain net.arcs i y d → ((j l t : ℕ) → IsArc net.arcs i j l → d ≡ l + t → Under t (item (T j)))
      → Has y nd.table
  behind y d (here e q) far = subst (λ (k : ℕ). Has k nd.table) e own_entry
  behind y d (via j l t a c q) far = under j y t c (far j l t a q)

  -- no arc has a finite sum: all has an entry
  pub cut_off : Chooses net i T none → (y s : ℕ) → Chain net.arcs i y s → Has y nd.table
  cut_off ch y s c = behind y s c (λ j l t a q. subst (λ (w : Item). Under t w) (sym (ch j l a)) tt)

  -- it may stop where all that has a chain has an entry
  pub stop_ok : ((y s : ℕ) → Chain net.arcs i y s → Has y nd.table) → Ok net i T (stop nd)
  stop_ok all =
      record {
        good = (ok.good, λ y s c. sent_label y (all y s c));
        each = ok.each;
        right = ok.right;
        front = ok.front;
        heard = ok.heard;
        traced = ok.traced;
        pace = ok.pace;
        last = ok.last;
        spoken = ok.spoken;
        reach = λ u. reached;
        far = ok.far;
        blank = λ e. stopped_unstarted stopped refl e;
        own = λ u. own_entry;
        shut = λ e. (nd.sent, refl);
        ended = ap suc (ok.ended ∙ ap ends_sent up);
      }

  module _ (p : Choice) (ch : Chooses net i T (some p)) where
    pub sum_le : (j l v : ℕ) → IsArc net.arcs i j l → item (T j) ≡ finite v → p.sum ≤ l + v
    sum_le j l v a e = go (ch.1 j l v a e)
      where
        go : Before net.rank p.sum p.head (l + v) j → p.sum ≤ l + v
        go (inl lt) = omega arith
        go (inr eq) = omega arith

    -- what is nearer than the least sum has an entry
    pub near : (y d : ℕ) → Chain net.arcs i y d → d < p.sum → Has y nd.table
    near y d c lt = behind y d c (λ j l t a q. below j l t a q (item (T j)) refl)
      where
        below : (j l t : ℕ) → IsArc net.arcs i j l → d ≡ l + t → (w : Item) → item (T j) ≡ w → Under t w
        below j l t a q (finite v) e = let h = sum_le j l v a e in omega arith
        below j l t a q infinite e = tt

    -- of all ways to a node without entry none goes before the chosen arc's sum and head
    pub first : (y : ℕ) → (Has y nd.table → ⊥) → (h l s : ℕ) → IsArc net.arcs i h l → Chain net.arcs h y s
        → Before net.rank p.sum p.head (l + s) h
    first y new h l s a c = at (item (T h)) refl
      where
        at : (w : Item) → item (T h) ≡ w → Before net.rank p.sum p.head (l + s) h
        at (finite v) e =
            let q : ¬ (s < v) = λ lt. new (under h y s c (subst (λ (w : Item). Under s w) (sym e) lt)) in
            before_more net.rank p.sum p.head (l + v) (l + s) h (ch.1 h l v a e) (omega arith)
        at infinite e = absurd (new (under h y s c (subst (λ (w : Item). Under s w) (sym e) tt)))

    -- the last length sent is not above the least sum
    pub floor : last_len nd.sent ≤ p.sum
    floor = let h = ok.front p.head ch.0.len ch.0.now ch.0.arc ch.0.item_is in omega (arith, ch.0.sum_is)

    sum_complete : Complete net.arcs i p.sum nd.sent
    sum_complete y d c lt = sent_label y (near y d c lt)

    -- the least sum may be sent
    pub sum_good : Good net.arcs i (send_len nd.sent p.sum)
    sum_good = send_len_good net.arcs i nd.sent p.sum ok.good floor sum_complete

    -- past LP + LMAX nothing is left: walk the chain
    pub past : Valid net → nd.lp + net.lmax < p.sum → (z : ℕ) → Has z nd.table → (y s : ℕ) → Chain net.arcs z y s
        → Has y nd.table
    past va gap z hz y s (here e q) = subst (λ (k : ℕ). Has k nd.table) e hz
    past va gap z hz y s (via j l t a c q) = past va gap j hj y t c
      where
        hj : Has j nd.table
        hj =
            let r = has_entry z nd.table hz in
            let c₁ : Chain net.arcs i z r.0.distance = subst (λ (k : ℕ). Chain net.arcs i k r.0.distance) (sym r.2)
            (ok.right r.0 r.1).distance.chain in
            near j (r.0.distance + l) (snoc net.arcs i z j r.0.distance l c₁ a)
            (omega (arith, paced_top net.lmax nd.table ok.pace r.0 r.1, ok.last, va.short z j l a))

    pub past_all : Valid net → nd.lp + net.lmax < p.sum → (y s : ℕ) → Chain net.arcs i y s → Has y nd.table
    past_all va gap y s c = past va gap i own_entry y s c

    -- a message that makes nothing known is taken
    pub pass_ok : (m : Msg) → Passed nd.table m → Good net.arcs p.head (m ∷ T p.head) → Ok net i (with T p.head m) nd
    pass_ok m pm gm =
        record {
          good = ok.good;
          each = ok.each;
          right = ok.right;
          front = λ j l v a e. front j l v a m gm (eqb j p.head) refl e;
          heard = λ j y h. heard j y m pm (eqb j p.head) h;
          traced = λ e w. kept_traced p.head m e w;
          pace = ok.pace;
          last = ok.last;
          spoken = ok.spoken;
          reach = ok.reach;
          far = ok.far;
          blank = ok.blank;
          own = ok.own;
          shut = ok.shut;
          ended = ok.ended;
        }
      where
        heard : (j y : ℕ) (m : Msg) → Passed nd.table m → (b : Bool) → Labelled y (cond b (m ∷ T j) (T j)) → Has y nd.table
        heard j y (label z) pm true (inl q) = subst (λ (k : ℕ). Has k nd.table) (sym q) pm
        heard j y (label z) pm true (inr w) = ok.heard j y w
        heard j y (len x) pm true w = ok.heard j y w
        heard j y end pm true w = ok.heard j y w
        heard j y m pm false w = ok.heard j y w

        front : (j l v : ℕ) → IsArc net.arcs i j l → (m : Msg) → Good net.arcs p.head (m ∷ T p.head) → (b : Bool)
            → eqb j p.head ≡ b
            → item (cond b (m ∷ T j) (T j)) ≡ finite v → last_len nd.sent ≤ l + v
        front j l v a (label z) gm true eb e = ok.front j l v a e
        front j l v a (len x) gm true eb e =
            let q : j ≡ p.head = eqb-true j p.head eb in
            let w : item (T j) ≡ finite ch.0.now = ap (λ (k : ℕ). item (T k)) q ∙ ch.0.item_is in
            let s : last_len (T p.head) ≡ ch.0.now = item_last_len (T p.head) ch.0.now ch.0.item_is in
            let h : x ≡ v = cc in
            omega (arith, ok.front j l ch.0.now a w, gm.1)
        front j l v a end gm true eb e = let z : ◌≡◌ {A = ℕ} 0 1 = cc in absurd (omega arith)
        front j l v a m gm false eb e = ok.front j l v a e

    -- it sends the least sum and waits
    pub wait_ok : p.sum ≤ nd.lp + net.lmax → Ok net i T (wait nd p.sum)
    wait_ok close =
        record {
          good = sum_good;
          each = send_len_labels nd.sent p.sum ∙ ok.each;
          right = ok.right;
          front = λ j l v a e. omega (arith, send_len_last nd.sent p.sum, sum_le j l v a e);
          heard = ok.heard;
          traced = ok.traced;
          pace = ok.pace;
          last = ok.last;
          spoken = omega (arith, send_len_last nd.sent p.sum, ok.spoken, floor);
          reach = ok.reach;
          far = omega (arith, send_len_last nd.sent p.sum, reached);
          blank = λ e. started_unstarted nd.phase up e;
          own = ok.own;
          shut = λ e. started_stopped nd.phase up e;
          ended = send_len_ends nd.sent p.sum ∙ ok.ended;
        }
