-- The loop, by its invariant: where i structs are behind, it is `Behind`. Each turn leaves fewer of them, or leaves the loop.
use mathlib.Core.Path.{◌≡◌, refl, sym, subst}
use Prim.Native.Nat.{ℕ, zero, suc, ◌+◌, ◌-◌, ◌≤◌, ◌<◌}
use native.Mathlib.Omega.{arith}
use mathlib.Core.List.{List, [], ◌∷◌}
use lib.ListN.{length}
use lib.WfN.{lt-wf_rel}
use native.Mathlib.Decide.{dec_lt}
use seplogic.Ra.Ura.{Ura}
use mir.Syntax.{w32}
use mir.Val.{Val, vint}
use base.Logic.{SProp, ent, ex, guard, via, ex_i, ex_e, guard_i, guard_e}
use prog.Wp.{Wp, Tables}
use types.Logic.{Logic}
use sound.Loop.{loop_rule}
use types.Kit.{⋆, ◌$◌, ◌∵◌, !, qed, by, move}
use denote.Laws.{Is, shows}
use denote.Builtin.{u32}
use denote.Steps.{peeks}
use Rattle.walk.proofs.Form.{Form, Behind}
use Rattle.walk.proofs.FormCode.{turn}
use Rattle.walk.proofs.Stack.{Input, Blocks, En, At}
use Rattle.walk.proofs.Calls.{Known}
use Rattle.walk.proofs.Ending.{Left}
use Rattle.walk.proofs.Turn.{Turns, more, refuses, ends}

-- a number and its machine value
pair_is : {f r : ℕ} {u : Val} → u ≡ vint w32 f → f ≡ r → ◌≡◌ {A = ℕ × Val} (f, u) (r, vint w32 r)
pair_is e z = cc

-- how far the loop is: structs behind, what is refused so far, its machine value, and what is made
abbrev Spot : Type 0
Spot = ℕ × ℕ × Val × List ℕ

module _ {form : Form} (held_by : Behind form) {M : Type 1} {𝓤 : Ura M} (𝓛 : Logic 𝓤) (input : Input form)
    (𝓣 : Tables 𝓤 𝓛.H) (known : Known form 𝓛 𝓣) (bs : Blocks) where
  open 𝓛 use {H}
  open input use {n, lm, ys}

  -- the invariant, where t structs are left
  abbrev Holds : ℕ → Spot → Type 0
  Holds t s = (length ys - s.0 ≡ t) × (s.0 ≤ length ys) × held_by.Behind n lm ys s.0 s.1 s.3

  abbrev AtSpot : Spot → SProp 𝓤
  AtSpot s = ⋆ 𝓛 (At input bs s.0 s.1 s.2 s.3)

  abbrev Inv : ℕ → SProp 𝓤
  Inv t = ex 𝓤 (λ (s : Spot). guard 𝓤 (Holds t s) (AtSpot s))

  abbrev Below : ℕ → SProp 𝓤
  Below t = ex 𝓤 (λ (t' : ℕ). guard 𝓤 (t' < t) (Inv t'))

  -- a turn runs, after which fewer than t structs are left
  abbrev Goes : ℕ → SProp 𝓤
  Goes t = Turns 𝓛 input 𝓣 known bs (Below t)

  into : (t : ℕ) (s : Spot) → Holds t s → ent 𝓤 (AtSpot s) (Inv t)
  into t s f = via 𝓤 (guard 𝓤 (Holds t s) (AtSpot s)) (guard_i 𝓤 (Holds t s) (AtSpot s) f)
      (ex_i 𝓤 (λ (s' : Spot). guard 𝓤 (Holds t s') (AtSpot s')) s)

  below : (t t' : ℕ) → t' < t → ent 𝓤 (Inv t') (Below t)
  below t t' l = via 𝓤 (guard 𝓤 (t' < t) (Inv t')) (guard_i 𝓤 (t' < t) (Inv t') l) (ex_i 𝓤 (λ (t'' : ℕ). guard 𝓤 (t'' < t) (Inv t'')) t')

  -- what is refused so far lies in its local as a number
  as_number : (s : Spot) (X : SProp 𝓤) → (s.2 ≡ vint w32 s.1 → ent 𝓤 (AtSpot s) X) → ent 𝓤 (AtSpot s) X
  as_number s X k =
      qed 𝓛 (At input bs s.0 s.1 s.2 s.3) ∵ move ! (1 ∷ 0 ∷ []) $
      peeks ! u32 (Is u32) (shows 𝓛 u32) s.1 (s.2 ∷ []) (λ is. move ! (1 ∷ 0 ∷ []) $ by ! (k cc))

  turn_at_lem : (t : ℕ) (s : Spot) → Holds t s → ent 𝓤 (AtSpot s) (Goes t)
  turn_at_lem t s f = as_number s _ (λ e. goes s.1 refl e (dec_lt s.0 (length ys)))
    where
      at_number : (r : ℕ) → s.1 ≡ r → s.2 ≡ vint w32 s.1 → ent 𝓤 (AtSpot (s.0, r, vint w32 r, s.3)) (Goes t)
          → ent 𝓤 (AtSpot s) (Goes t)
      at_number r z e = subst (λ (x : ℕ × Val). ent 𝓤 (AtSpot (s.0, x.0, x.1, s.3)) (Goes t)) (sym (pair_is e z))

      so_far : (r : ℕ) → s.1 ≡ r → held_by.Behind n lm ys s.0 r s.3
      so_far r z = subst (λ (x : ℕ). held_by.Behind n lm ys s.0 x s.3) z f.2

      goes : (r : ℕ) → s.1 ≡ r → s.2 ≡ vint w32 s.1 → Dec (s.0 < length ys) → ent 𝓤 (AtSpot s) (Goes t)
      goes zero z e (yes l) = at_number 0 z e
          (more 𝓛 input 𝓣 known bs s.0 s.3 (Below t) l (held_by.asks n lm ys s.0 0 s.3 l (so_far 0 z))
          (λ r v h e. via 𝓤 (Inv (length ys - (s.0 + 1)))
          (into (length ys - (s.0 + 1)) (s.0 + 1, r, v, h)
          (refl, omega arith, held_by.one_behind n lm ys s.0 0 r s.3 h l (so_far 0 z) e))
          (below t (length ys - (s.0 + 1)) (omega arith))))
      goes zero z e (no l) = at_number 0 z e
          (let all : s.0 ≡ length ys = omega arith in
          subst (λ (j : ℕ). ent 𝓤 (AtSpot (j, 0, vint w32 0, s.3)) (Goes t)) (sym all)
          (ends 𝓛 input 𝓣 known bs held_by s.3 (Below t) (subst (λ (j : ℕ). held_by.Behind n lm ys j 0 s.3) all (so_far 0 z))))
      goes (suc r) z e d = at_number (suc r) z e (refuses 𝓛 input 𝓣 known bs held_by s.0 r s.3 (Below t)
          (held_by.refused_behind n lm ys s.0 (suc r) s.3 (so_far (suc r) z) (λ q. omega arith)))

  turns : (t : ℕ) → ent 𝓤 (Inv t) (Goes t)
  turns t = ex_e 𝓤 (λ (s : Spot). guard 𝓤 (Holds t s) (AtSpot s)) (λ s. guard_e 𝓤 (Holds t s) (AtSpot s) (turn_at_lem t s))

  pub loops : (f : ℕ) (u : Val) (h : List ℕ) → held_by.Behind n lm ys 0 f h
      → ent 𝓤 (⋆ 𝓛 (At input bs 0 f u h)) (Wp 𝓤 H 𝓣.C 𝓣.Λ (En form bs) (mir.Syntax.loop (turn form)) (Left 𝓛 input 𝓣 bs))
  loops f u h e = via 𝓤 (Inv (length ys - 0)) (into (length ys - 0) (0, f, u, h) (refl, omega arith, e))
      (loop_rule 𝓤 H 𝓛.laws 𝓣 ◌<◌ lt-wf_rel.wf (En form bs) (turn form) (Left 𝓛 input 𝓣 bs) Inv turns (length ys - 0))
