-- A node that fills an entry keeps what holds of it. The entry is right: nothing is nearer, and no first hop is lower.
use mathlib.Core.Path.{◌≡◌, refl, sym, ap, subst, ◌∙◌}
use mathlib.Core.Logic.{◌⊎◌, inl, inr, ◌≢◌}
use mathlib.Core.Bool.{Bool, true, false, cond}
use mathlib.Core.Option.{some}
use mathlib.Core.List.{List, ◌∷◌}
use Prim.Native.Nat.{ℕ, ◌+◌, ◌≤◌, ◌<◌}
use native.Mathlib.Nat.{le_of_eq}
use native.Mathlib.Omega.{arith}
use lib.Dec.{eqb}
use borrow.Author.Tests.{eqb-false}
use Rattle.method.specs.Network.{Net, IsArc}
use Rattle.method.specs.Distance.{Chain, via, Distance, Starts, Right}
use Rattle.method.specs.Message.{Msg, label, finite, last_len, item, send_len}
use Rattle.method.specs.Rules.{Filled, started, Node, Choice, fill}
use Rattle.method.specs.Distinct.{Among}
use Rattle.method.specs.Invariant.{In, Has, Labelled, Good, Ok}
use Rattle.method.proofs.Sent.{item_last_len, send_len_last, send_len_labels, send_len_ends}
use Rattle.method.proofs.Choosing.{Before}
use Rattle.method.proofs.View.{Chooses, with, started_unstarted, started_stopped}
use Rattle.method.proofs.Acts.{own_entry, reached, kept_traced, sum_le, near, first, floor, sum_good}

-- the label that is taken now
labelled_now : (T : ℕ → List Msg) (h y : ℕ) → Labelled y (with T h (label y) h)
labelled_now T h y = go (eqb h h) refl
  where
    go : (b : Bool) → eqb h h ≡ b → Labelled y (cond b (label y ∷ T h) (T h))
    go true q = inl refl
    go false q = absurd (eqb-false h h q refl)

module _ (net : Net) (i : ℕ) (T : ℕ → List Msg) (nd : Node) (ok : Ok net i T nd) (true_lists : (j : ℕ) → Good net.arcs j (T j))
    (up : nd.phase ≡ started) (p : Choice) (ch : Chooses net i T (some p)) (close : p.sum ≤ nd.lp + net.lmax)
    (y : ℕ) (new : Has y nd.table → ⊥) (gm : Good net.arcs p.head (label y ∷ T p.head)) where
  pub starts : Starts net.arcs i y p.sum p.head
  starts =
      record {
        len = ch.0.len;
        rest = ch.0.now;
        arc = ch.0.arc;
        chain = subst (λ (d : ℕ). Chain net.arcs p.head y d) (item_last_len (T p.head) ch.0.now ch.0.item_is)
            gm.1.chain;
        sum = ch.0.sum_is;
      }

  distance : Distance net.arcs i y p.sum
  distance = record { chain = via p.head starts.len starts.rest starts.arc starts.chain starts.sum; least = least }
    where
      least : (s : ℕ) → Chain net.arcs i y s → p.sum ≤ s
      least s c = let h : ¬ (s < p.sum) = λ lt. new (near net i T nd ok true_lists up p ch y s c lt) in omega arith

  new_right : Right net i y p.sum p.head
  new_right = record { distance = distance; hop = inr (not_own, record { starts = starts; lowest = lowest }) }
    where
      not_own : y ≢ i
      not_own e = new (subst (λ (k : ℕ). Has k nd.table) (sym e) (own_entry net i T nd ok true_lists up))

      lowest : (h : ℕ) → Starts net.arcs i y p.sum h → net.rank p.head ≤ net.rank h
      lowest h s = go (first net i T nd ok true_lists up p ch y new h s.len s.rest s.arc s.chain)
        where
          go : Before net.rank p.sum p.head (s.len + s.rest) h → net.rank p.head ≤ net.rank h
          go (inl lt) = absurd (omega (arith, s.sum))
          go (inr r) = r.1

  pub fill_ok : Ok net i (with T p.head (label y)) (fill nd p y)
  fill_ok =
      record {
        good = (sum_good net i T nd ok true_lists up p ch, far_enough, unsent);
        each = ap (λ (xs : List ℕ). y ∷ xs) (send_len_labels nd.sent p.sum ∙ ok.each);
        right = right;
        front = front;
        heard = λ j z h. heard j z (eqb j p.head) h;
        traced = traced;
        pace = (omega (arith, ok.last, ok.spoken, floor net i T nd ok true_lists up p ch), omega (arith, ok.last), ok.pace);
        last = refl;
        spoken = le_of_eq (sym (send_len_last nd.sent p.sum));
        reach = λ u. omega (arith, reached net i T nd ok true_lists up);
        far = omega (arith, send_len_last nd.sent p.sum, reached net i T nd ok true_lists up);
        blank = λ e. started_unstarted nd.phase up e;
        own = λ u. inr (own_entry net i T nd ok true_lists up);
        shut = λ e. started_stopped nd.phase up e;
        ended = send_len_ends nd.sent p.sum ∙ ok.ended;
      }
    where
      far_enough : Distance net.arcs i y (last_len (send_len nd.sent p.sum))
      far_enough = subst (λ (d : ℕ). Distance net.arcs i y d) (sym (send_len_last nd.sent p.sum)) distance

      unsent : Labelled y (send_len nd.sent p.sum) → ⊥
      unsent h = new (subst (λ (xs : List ℕ). Among y xs) (send_len_labels nd.sent p.sum ∙ ok.each) h)

      right : (e : Filled) → In e (fill nd p y).table → Right net i e.target e.distance e.hop
      right e (inl q) = subst (λ (f : Filled). Right net i f.target f.distance f.hop) (sym q) new_right
      right e (inr m) = ok.right e m

      heard : (j z : ℕ) (b : Bool) → Labelled z (cond b (label y ∷ T j) (T j)) → Has z (fill nd p y).table
      heard j z true (inl q) = inl q
      heard j z true (inr w) = inr (ok.heard j z w)
      heard j z false w = inr (ok.heard j z w)

      traced : (e : Filled) → In e (fill nd p y).table → (e.target ≡ i) ⊎ Labelled e.target (with T p.head (label y) e.hop)
      traced e (inl q) = inr (subst (λ (f : Filled). Labelled f.target (with T p.head (label y) f.hop)) (sym q)
          (labelled_now T p.head y))
      traced e (inr m) = kept_traced net i T nd ok true_lists up p.head (label y) e m

      front : (j l v : ℕ) → IsArc net.arcs i j l → item (with T p.head (label y) j) ≡ finite v
          → last_len (fill nd p y).sent ≤ l + v
      front j l v a e =
          omega (arith, send_len_last nd.sent p.sum, sum_le net i T nd ok true_lists up p ch j l v a (go (eqb j p.head) e))
        where
          go : (b : Bool) → item (cond b (label y ∷ T j) (T j)) ≡ finite v → item (T j) ≡ finite v
          go true w = w
          go false w = w
