-- A node's sent list: what each message of it says of the chains, and what sending a length leaves as it was.
use mathlib.Core.Path.{◌≡◌, refl, sym, ap, subst, ◌∙◌}
use mathlib.Core.Logic.{◌⊎◌, inl, inr, ◌≢◌}
use mathlib.Core.Bool.{Bool, true, false, cond}
use mathlib.Core.List.{List, [], ◌∷◌, ◌++◌}
use Prim.Native.Nat.{ℕ, ◌+◌, ◌≤◌, ◌<◌}
use native.Mathlib.Omega.{arith}
use lib.Dec.{eqb}
use lib.ListN.{length}
use borrow.Author.Tests.{eqb-true, eqb-false}
use Rattle.method.specs.Network.{Arc}
use Rattle.method.specs.Distance.{Chain}
use Rattle.method.specs.Message.{Msg, label, len, end, Item, finite, infinite, last_len, item, send_len}
use Rattle.method.specs.Rules.{Phase, unstarted, started, stopped}
use Rattle.method.specs.Distinct.{Distinct}
use Rattle.method.specs.Invariant.{labels, lengths, ends, ends_sent, Labelled, Complete, Good}

pub parts : (s : List Msg) → length s ≡ length (labels s) + lengths s + ends s
parts [] = refl
parts (label y ∷ s) = let h = parts s in omega arith
parts (len x ∷ s) = let h = parts s in omega arith
parts (end ∷ s) = let h = parts s in omega arith

pub labels_append : (g s : List Msg) → labels (g ++ s) ≡ labels g ++ labels s
labels_append [] s = refl
labels_append (label y ∷ g) s = ap (λ (r : List ℕ). y ∷ r) (labels_append g s)
labels_append (len x ∷ g) s = labels_append g s
labels_append (end ∷ g) s = labels_append g s

pub good_tail : (ar : List Arc) (j : ℕ) (m : Msg) (s : List Msg) → Good ar j (m ∷ s) → Good ar j s
good_tail ar j (label y) s g = g.0
good_tail ar j (len x) s g = g.0
good_tail ar j end s g = g.0

pub good_drop : (ar : List Arc) (j : ℕ) (e s : List Msg) → Good ar j (e ++ s) → Good ar j s
good_drop ar j [] s g = g
good_drop ar j (m ∷ e) s g = good_drop ar j e s (good_tail ar j m (e ++ s) g)

-- d is below the item
abbrev pub Under : ℕ → Item → Type 0
Under d (finite x) = d < x
Under d infinite = Unit {0}

-- every node nearer than the current item is labelled
pub complete : (ar : List Arc) (j : ℕ) (s : List Msg) → Good ar j s → (y d : ℕ) → Chain ar j y d → Under d (item s) → Labelled y s
complete ar j [] g y d c u = let h : d < 0 = u in absurd (omega arith)
complete ar j (label z ∷ s) g y d c u = inr (complete ar j s g.0 y d c u)
complete ar j (len x ∷ s) g y d c u = g.2 y d c u
complete ar j (end ∷ s) g y d c u = g.1 y d c

pub labels_distinct : (ar : List Arc) (j : ℕ) (s : List Msg) → Good ar j s → Distinct (labels s)
labels_distinct ar j [] g = tt
labels_distinct ar j (label y ∷ s) g = (g.2, labels_distinct ar j s g.0)
labels_distinct ar j (len x ∷ s) g = labels_distinct ar j s g.0
labels_distinct ar j (end ∷ s) g = labels_distinct ar j s g.0

-- one end, when it has stopped
pub ends_le : (ph : Phase) → ends_sent ph ≤ 1
ends_le unstarted = omega arith
ends_le started = omega arith
ends_le stopped = omega arith

-- a finite item is the last length
pub item_last_len : (s : List Msg) (v : ℕ) → item s ≡ finite v → last_len s ≡ v
item_last_len [] v e = cc
item_last_len (label y ∷ s) v e = item_last_len s v e
item_last_len (len x ∷ s) v e = cc
item_last_len (end ∷ s) v e = cc

pub labelled_more : (y : ℕ) (e s : List Msg) → Labelled y s → Labelled y (e ++ s)
labelled_more y [] s h = h
labelled_more y (label z ∷ e) s h = inr (labelled_more y e s h)
labelled_more y (len x ∷ e) s h = labelled_more y e s h
labelled_more y (end ∷ e) s h = labelled_more y e s h

-- sending a length: nothing where it is the last one, else one message
abbrev pub Sending : List Msg → ℕ → List Msg → Type 0
Sending s x r = ((r ≡ s) × (last_len s ≡ x)) ⊎ ((r ≡ len x ∷ s) × (last_len s ≢ x))

pub sending : (s : List Msg) (x : ℕ) → Sending s x (send_len s x)
sending s x = go (eqb (last_len s) x) refl
  where
    go : (b : Bool) → eqb (last_len s) x ≡ b → Sending s x (cond b s (len x ∷ s))
    go true e = inl (refl, eqb-true (last_len s) x e)
    go false e = inr (refl, eqb-false (last_len s) x e)

pub send_len_last : (s : List Msg) (x : ℕ) → last_len (send_len s x) ≡ x
send_len_last s x = go (sending s x)
  where
    go : Sending s x (send_len s x) → last_len (send_len s x) ≡ x
    go (inl e) = ap last_len e.0 ∙ e.1
    go (inr e) = ap last_len e.0

pub send_len_adds : (s : List Msg) (x : ℕ) → (e : List Msg) × (send_len s x ≡ e ++ s)
send_len_adds s x = go (sending s x)
  where
    go : Sending s x (send_len s x) → (e : List Msg) × (send_len s x ≡ e ++ s)
    go (inl e) = ([], e.0)
    go (inr e) = (len x ∷ [], e.0)

-- what a length does not change
send_len_same : {A : Type 0} (f : List Msg → A) → ((s : List Msg) (x : ℕ) → f (len x ∷ s) ≡ f s) → (s : List Msg) (x : ℕ)
    → f (send_len s x) ≡ f s
send_len_same f same s x = go (sending s x)
  where
    go : Sending s x (send_len s x) → f (send_len s x) ≡ f s
    go (inl e) = ap f e.0
    go (inr e) = ap f e.0 ∙ same s x

pub send_len_labels : (s : List Msg) (x : ℕ) → labels (send_len s x) ≡ labels s
send_len_labels s x = send_len_same labels (λ s x. refl) s x

pub send_len_ends : (s : List Msg) (x : ℕ) → ends (send_len s x) ≡ ends s
send_len_ends s x = send_len_same ends (λ s x. refl) s x

pub send_len_good : (ar : List Arc) (i : ℕ) (s : List Msg) (x : ℕ) → Good ar i s → last_len s ≤ x → Complete ar i x s
    → Good ar i (send_len s x)
send_len_good ar i s x g le c = go (sending s x)
  where
    go : Sending s x (send_len s x) → Good ar i (send_len s x)
    go (inl e) = subst (λ (r : List Msg). Good ar i r) (sym e.0) g
    go (inr e) = let ne : last_len s ≢ x = e.1 in subst (λ (r : List Msg). Good ar i r) (sym e.0) (g, omega arith, c)
