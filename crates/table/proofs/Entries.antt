-- What the entries of an accepted file say, and how the records tell them.
use mathlib.Core.Path.{◌≡◌, refl, ◌∙◌, ap, subst}
use mathlib.Core.Logic.{◌≢◌}
use mathlib.Core.List.{List, [], ◌∷◌, ◌++◌}
use mathlib.Core.Bool.{Bool, true, false, cond, ◌||◌}
use mathlib.Core.Option.{Option, none, some}
use Prim.Native.Nat.{ℕ}
use native.Mathlib.Omega.{arith}
use lib.Dec.{eqb, ltb}
use borrow.Author.Tests.{ne_eqb, le-ltb, eqb-true, eqb-false, ltb-false}
use Rattle.method.specs.Network.{IsNode}
use Rattle.method.specs.Rules.{Filled, Phase, started, has}
use Rattle.method.specs.Entries.{Entry, unreachable, find, said, others}
use Rattle.method.specs.Invariant.{Has}
use Rattle.method.proofs.Table.{in_has, has_true, has_false, Found, find_ok}
use Rattle.table.specs.declared.Header.{Header}
use Rattle.refusal.specs.Rows.{◌when◌, first, answer}
use Rattle.table.specs.Reader.{accepted, entry_in, refusal, says, entry_from}
use Rattle.refusal.proofs.Tests.{neither}

-- a target without a record, and one with a record, of which the phase does not matter

pub find_none : (y : ℕ) (es : List Filled) → has y es ≡ false → find y es ≡ none
find_none y es n = go (find y es) (find_ok y es)
  where
    go : (o : Option Filled) → Found y es o → o ≡ none
    go none w = refl
    go (some e) w = absurd (has_false y es n (subst (λ (k : ℕ). Has k es) w.1 (in_has e es w.0)))

pub said_has : (y : ℕ) (es : List Filled) → has y es ≡ true → (p q : Phase) → said p (find y es) ≡ said q (find y es)
said_has y es t p q = go (find y es) (find_ok y es)
  where
    go : (o : Option Filled) → Found y es o → said p o ≡ said q o
    go none w = absurd (w (has_true y es t))
    go (some e) w = refl

-- leaving out the node's own entry loses no other
pub find_others : (i y : ℕ) → y ≢ i → (es : List Filled) → find y (others i es) ≡ find y es
find_others i y n [] = refl
find_others i y n (e ∷ es) = go (eqb e.target i) refl (find_others i y n es)
  where
    go : (b : Bool) → eqb e.target i ≡ b → find y (others i es) ≡ find y es
        → find y (cond b (others i es) (e ∷ others i es)) ≡ find y (e ∷ es)
    go true q ih = rw (ne_eqb y e.target (λ z. n (z ∙ eqb-true e.target i q))) ih
    go false q ih = ap (λ (o : Option Filled). cond (eqb y e.target) (some e) o) ih

pub others_append : (i : ℕ) (g es : List Filled) → others i (g ++ es) ≡ others i g ++ others i es
others_append i [] es = refl
others_append i (e ∷ g) es = go (eqb e.target i) (others_append i g es)
  where
    go : (b : Bool) → others i (g ++ es) ≡ others i g ++ others i es
        → cond b (others i (g ++ es)) (e ∷ others i (g ++ es)) ≡ cond b (others i g) (e ∷ others i g) ++ others i es
    go true ih = ih
    go false ih = ap (λ (r : List Filled). e ∷ r) ih

module _ (h : Header) (es : List Filled) (m : Bool) (y : ℕ) where
  -- a node's number is not refused, and what is not refused is a node's number

  pub node_entry : IsNode h.n y → entry_from (accepted h es m) y ≡ says (entry_in h es m y)
  node_entry at = rw (ne_eqb y 0 (omega (arith, at.0)), le-ltb h.n y at.1)

  pub entry_node : (x : Entry) → entry_from (accepted h es m) y ≡ says x → IsNode h.n y × (entry_in h es m y ≡ x)
  entry_node x e = go (eqb y 0 || ltb h.n y) refl e
    where
      go : (b : Bool) → eqb y 0 || ltb h.n y ≡ b → answer (first (11 when b ∷ [])) refusal (says (entry_in h es m y)) ≡ says x
          → IsNode h.n y × (entry_in h es m y ≡ x)
      go true q w = absurd (let z : ◌≡◌ {A = ℕ} 0 1 = cc in omega arith)
      go false q w =
          let r = neither (eqb y 0) (ltb h.n y) q in
          let n : y ≡ 0 → ⊥ = eqb-false y 0 r.0 in
          ((omega arith, ltb-false h.n y r.1), cc)

-- without the end mark nothing is unreachable
pub unmarked_reachable : (h : Header) (es : List Filled) (y : ℕ) → entry_in h es false y ≢ unreachable
unmarked_reachable h es y = go (eqb y h.own) (find y es)
  where
    go : (b : Bool) (o : Option Filled) → cond b (Rattle.method.specs.Entries.known 0 0) (said started o) ≢ unreachable
    go true o e = let z : ◌≡◌ {A = ℕ} 0 1 = cc in omega arith
    go false none e = let z : ◌≡◌ {A = ℕ} 0 1 = cc in omega arith
    go false (some x) e = let z : ◌≡◌ {A = ℕ} 0 1 = cc in omega arith
