-- What each act of a node keeps, a turn keeps. A law of this kind has five cases, and says nothing of turns, of the work, or of how
-- messages travel.
use mathlib.Core.Path.{◌≡◌, refl, subst}
use mathlib.Core.Bool.{Bool, true, false, cond}
use mathlib.Core.Option.{Option, none, some}
use mathlib.Core.List.{List, ◌∷◌, ◌++◌}
use Prim.Native.Nat.{ℕ, ◌+◌, ◌≤◌}
use Rattle.method.specs.Network.{Net}
use Rattle.method.specs.Message.{Msg, label, len, end, item}
use Rattle.method.specs.Rules.{started, Node, has, Choice, rule₁, stop, wait, fill, Go}
use Rattle.method.specs.Rules.{Turn, rests, took, rule₂, rule₃, rule₄, beyond, turn}
use Rattle.method.specs.Work.{asleep, begun}
use Rattle.method.specs.Invariant.{Has, labels, Good, Ok}
use Rattle.method.proofs.Choosing.{rule₁_ok}
use Rattle.method.proofs.Table.{has_false}
use Rattle.method.proofs.View.{Chooses}
use Rattle.method.proofs.Again.{Held, turn_held, beyond_false}

-- node i is at rule 3 with the choice p
pub record Acting (net : Net) (i : ℕ) (T : ℕ → List Msg) (nd : Node) (p : Choice) : Type 0 where
  pub ok : Ok net i T nd
  pub known : (j : ℕ) → Good net.arcs j (T j)
  pub up : nd.phase ≡ started
  pub chosen : Chooses net i T (some p)
  pub close : p.sum ≤ nd.lp + net.lmax

-- node h, of which P holds, has sent the label y right after the labels of s, which is true with y on top
pub record Told (net : Net) (P : ℕ → Node → Type 0) (h y : ℕ) (s : List Msg) : Type 0 where
  pub teller : Node
  pub view : ℕ → List Msg
  pub ok : Ok net h view teller
  pub holds : P h teller
  pub newer : List ℕ
  pub is : labels teller.sent ≡ newer ++ (y ∷ labels s)
  pub good : Good net.arcs h (label y ∷ s)

-- P holds of a node that has not started and of one that has just begun, and stopping, waiting and filling keep it
pub record Keeps (net : Net) (P : ℕ → Node → Type 0) : Type 0 where
  pub at_first : (i : ℕ) → P i asleep
  pub at_start : (i : ℕ) → P i (begun i)
  pub at_stop : (i : ℕ) (nd : Node) → P i nd → P i (stop nd)
  pub at_wait : (i : ℕ) (T : ℕ → List Msg) (nd : Node) (p : Choice) → Acting net i T nd p → P i nd → P i (wait nd p.sum)
  pub at_fill : (i : ℕ) (T : ℕ → List Msg) (nd : Node) (p : Choice) (y : ℕ) → Acting net i T nd p → (Has y nd.table → ⊥)
      → Told net P p.head y (T p.head) → P i nd → P i (fill nd p y)

module _ (net : Net) (P : ℕ → Node → Type 0) (keeps : Keeps net P) where
  -- the node that a turn leaves
  abbrev pub After : ℕ → Turn → Type 0
  After i (rests nd) = P i nd
  After i (took h nd go) = P i nd

  module _ (i : ℕ) (T : ℕ → List Msg) (more : ℕ → Option Msg) (known : (j : ℕ) → Good net.arcs j (T j))
      (coming : (j y : ℕ) → more j ≡ some (label y) → Told net P j y (T j)) (nd : Node) (ok : Ok net i T nd) (up : nd.phase ≡ started)
      (now : P i nd) where
    rule₄_keeps : (p : Choice) → Acting net i T nd p → (m : Msg) → more p.head ≡ some m → After i (rule₄ nd p m)
    rule₄_keeps p at (label y) was = by (has y nd.table) refl
      where
        by : (b : Bool) → has y nd.table ≡ b → P i (cond b nd (fill nd p y))
        by true e = now
        by false e = keeps.at_fill i T nd p y at (has_false y nd.table e) (coming p.head y was) now
    rule₄_keeps p at (len x) was = now
    rule₄_keeps p at end was = now

    rule₃_keeps : (p : Choice) → Acting net i T nd p → (o : Option Msg) → more p.head ≡ o → After i (rule₃ nd p o)
    rule₃_keeps p at none was = keeps.at_wait i T nd p at now
    rule₃_keeps p at (some m) was = rule₄_keeps p at m was

    rule₂_keeps : (o : Option Choice) → Chooses net i T o → After i (rule₂ net.lmax more nd o)
    rule₂_keeps none ch = keeps.at_stop i nd now
    rule₂_keeps (some p) ch = by (beyond net.lmax nd p.sum) refl
      where
        by : (b : Bool) → beyond net.lmax nd p.sum ≡ b → After i (cond b (rests (stop nd)) (rule₃ nd p (more p.head)))
        by true e = keeps.at_stop i nd now
        by false e =
            rule₃_keeps p (record { ok = ok; known = known; up = up; chosen = ch; close = beyond_false net.lmax nd p.sum e })
            (more p.head) refl

    pub turn_keeps : (go : Go) → Held net i (λ h. item (T h)) go nd → After i (turn net i (λ h. item (T h)) more go nd)
    unfolding turn
    turn_keeps go held =
        subst (λ (t : Turn). After i t) (turn_held net i (λ h. item (T h)) more go nd held)
        (rule₂_keeps (rule₁ net.rank i (λ h. item (T h)) net.arcs) (rule₁_ok net.rank (λ h. item (T h)) i net.arcs))
