-- Walks of straight-line code. A function's locals are cells, in their order, and each holds a value or nothing: all are made where it
-- begins, and freed where it ends. What else there is stands after them.
use mathlib.Core.Path.{◌≡◌, refl, ap}
use Prim.Native.Nat.{ℕ, zero, suc}
use mathlib.Core.Option.{Option, none, some}
use mathlib.Core.List.{List, [], ◌∷◌, ◌++◌, map}
use lib.Dec.{T as Holds}
use lib.ListN.{get_or}
use seplogic.Ra.Ura.{Ura}
use base.Fraction.{full_share}
use mir.Syntax.{Ty, Local, local, place, copy, return, Opd as Operand}
use mir.Val.{Val, has_ty, WT}
use base.Logic.{SProp, sep, via, comm∗, assoc∗, assoc', mono_l, mono_r}
use base.Fml.{fat, froom, fdies}
use prog.Wp.{Heap, Env, no_local, Calls, Loops}
use types.Logic.{Logic}
use types.Kit.{Item, ‵, ⋆, nth, ++⊢, ⊢++, Goal, prop, lands, at_ret, allocs, params', passes, frees, Seq, Go, ◌$◌, ! }
use types.Run.{Opds, look, init, forget, stop, from, load, and_then, no_more, land, returns, alloc1, alloc0, params1, pass1, pass0, free1}
use types.Run.{free0}

-- a list without its first entry
abbrev pub behind {ℓ} : {X : Type ℓ} → List X → List X
behind [] = []
behind (x ∷ xs) = xs

-- the blocks that locals get
abbrev pub Blocks : List Local → Type 0
Blocks [] = Unit {0}
Blocks (l ∷ ls) = ℕ × Blocks ls

-- the values are of the locals' types
abbrev pub Typed : List Local → List Val → Type 0
Typed ls [] = Unit {0}
Typed [] (v ∷ vs) = ⊥
Typed (local τ h ∷ ls) (v ∷ vs) = (Holds (has_ty τ v) × WT v) × Typed ls vs

-- the parameters are the locals after the result's
abbrev Passed : List Local → List Val → Type 0
Passed [] vs = ⊥
Passed (l ∷ ls) vs = Typed ls vs

-- a number twice, for the place of a local's cell
abbrev twice : ℕ → ℕ
twice zero = zero
twice (suc j) = suc (suc (twice j))

-- the operand that copies the local j
abbrev pub copied : ℕ → Operand
copied j = copy (place j [])

module _ {M : Type 1} (𝓤 : Ura M) (H : Heap 𝓤) where
  abbrev pub env_at : (ls : List Local) → Blocks ls → Env 𝓤 H
  env_at [] bs = []
  env_at (local τ h ∷ ls) bs = (τ, bs.0) ∷ env_at ls bs.1

  abbrev cell : Ty × ℕ → Option Val → Item 𝓤
  cell e none = ‵ (froom e.0 e.1 zero)
  cell e (some v) = ‵ (fat full_share e.0 e.1 zero v)

  -- each local's cell, with the right to free it. Those that hs does not reach are empty
  abbrev pub cells : Env 𝓤 H → List (Option Val) → List (Item 𝓤)
  cells [] hs = []
  cells (e ∷ E) [] = cell e none ∷ ‵ (fdies e.0 e.1) ∷ cells E []
  cells (e ∷ E) (h ∷ hs) = cell e h ∷ ‵ (fdies e.0 e.1) ∷ cells E hs

  -- the local j holds v
  abbrev Holding : Env 𝓤 H → List (Option Val) → ℕ → Val → Type 0
  Holding [] hs j v = ⊥
  Holding (e ∷ E) [] j v = ⊥
  Holding (e ∷ E) (h ∷ hs) zero v = h ≡ some v
  Holding (e ∷ E) (h ∷ hs) (suc j) v = Holding E hs j v

  -- the locals js hold vs
  abbrev pub AllHolding : Env 𝓤 H → List (Option Val) → List ℕ → List Val → Type 0
  AllHolding E hs [] [] = Unit {0}
  AllHolding E hs [] (v ∷ vs) = ⊥
  AllHolding E hs (j ∷ js) [] = ⊥
  AllHolding E hs (j ∷ js) (v ∷ vs) = Holding E hs j v × AllHolding E hs js vs

module _ {M : Type 1} {𝓤 : Ura M} (𝓛 : Logic 𝓤) where
  -- where a local's cell stands
  open 𝓛 use {H}

  stands : (E : Env 𝓤 H) (hs : List (Option Val)) (j : ℕ) (v : Val) (Γ : List (Item 𝓤)) → Holding 𝓤 H E hs j v
      → nth 𝓛 (twice j) (cells 𝓤 H E hs ++ Γ) ≡ ‵ (fat full_share (get_or E j (no_local 𝓤 H)).0 (get_or E j (no_local 𝓤 H)).1 zero v)
  stands [] hs j v Γ z = absurd z
  stands (e ∷ E) [] j v Γ z = absurd z
  stands (e ∷ E) (h ∷ hs) zero v Γ z = ap (cell 𝓤 H e) z
  stands (e ∷ E) (h ∷ hs) (suc j) v Γ z = stands E hs j v Γ z

module _ {M : Type 1} {𝓤 : Ura M} (𝓛 : Logic 𝓤) where
  open 𝓛 use {H}

  abbrev pub Sq : List (Item 𝓤) → Goal 𝓤 H → Type 1
  Sq Γ G = Seq (Go {0}) 𝓛 Γ G

  -- the entries Θ come before Δ
  pub past : (Δ Θ Γ : List (Item 𝓤)) {G : Goal 𝓤 H} → Sq (Θ ++ (Δ ++ Γ)) G → Sq (Δ ++ (Θ ++ Γ)) G
  past Δ Θ Γ s =
      let D : SProp 𝓤 = ⋆ 𝓛 Δ in
      let T : SProp 𝓤 = ⋆ 𝓛 Θ in
      let R : SProp 𝓤 = ⋆ 𝓛 Γ in
      record {
        prf = via 𝓤 (sep 𝓤 D (sep 𝓤 T R)) (via 𝓤 (sep 𝓤 D (⋆ 𝓛 (Θ ++ Γ))) (⊢++ 𝓛 Δ (Θ ++ Γ)) (mono_r 𝓤 D (⊢++ 𝓛 Θ Γ)))
            (via 𝓤 (sep 𝓤 T (sep 𝓤 D R))
            (via 𝓤 (sep 𝓤 (sep 𝓤 D T) R) (assoc' 𝓤 D T R) (via 𝓤 (sep 𝓤 (sep 𝓤 T D) R) (mono_l 𝓤 R (comm∗ 𝓤 D T)) (assoc∗ 𝓤 T D R)))
            (via 𝓤 (⋆ 𝓛 (Θ ++ (Δ ++ Γ))) (via 𝓤 (sep 𝓤 T (⋆ 𝓛 (Δ ++ Γ))) (mono_r 𝓤 T (++⊢ 𝓛 Δ Γ)) (++⊢ 𝓛 Θ (Δ ++ Γ)))
            s.prf));
      }

  -- every local is made
  made : (ls : List Local) (Γ : List (Item 𝓤)) (Kt : Env 𝓤 H → Goal 𝓤 H)
      → ((bs : Blocks ls) → Sq (cells 𝓤 H (env_at 𝓤 H ls bs) [] ++ Γ) (Kt (env_at 𝓤 H ls bs))) → Sq Γ (allocs ls Kt)
  made [] Γ Kt k = alloc0 ! $ k tt
  made (local τ h ∷ ls) Γ Kt k =
      alloc1 ! (λ b. made ls (‵ (froom τ b zero) ∷ ‵ (fdies τ b) ∷ Γ) (λ E. Kt ((τ, b) ∷ E))
      (λ bs. past (cells 𝓤 H (env_at 𝓤 H ls bs) []) (‵ (froom τ b zero) ∷ ‵ (fdies τ b) ∷ []) Γ (k (b, bs))))

  -- every argument is stored
  stored : (ls : List Local) (bs : Blocks ls) (vs : List Val) → Typed ls vs → (Γ : List (Item 𝓤)) (G : Goal 𝓤 H)
      → Sq (cells 𝓤 H (env_at 𝓤 H ls bs) (map some vs) ++ Γ) G → Sq (cells 𝓤 H (env_at 𝓤 H ls bs) [] ++ Γ) (passes (env_at 𝓤 H ls bs) vs G)
  stored ls bs [] wt Γ G s = pass0 ! $ s
  stored [] bs (v ∷ vs) wt Γ G s = absurd wt
  stored (local τ h ∷ ls) bs (v ∷ vs) wt Γ G s =
      pass1 ! (init ! 0 refl wt.0) $ past (‵ (fat full_share τ bs.0 zero v) ∷ ‵ (fdies τ bs.0) ∷ [])
      (cells 𝓤 H (env_at 𝓤 H ls bs.1) []) Γ
      (stored ls bs.1 vs wt.1 (‵ (fat full_share τ bs.0 zero v) ∷ ‵ (fdies τ bs.0) ∷ Γ) G
      (past (cells 𝓤 H (env_at 𝓤 H ls bs.1) (map some vs)) (‵ (fat full_share τ bs.0 zero v) ∷ ‵ (fdies τ bs.0) ∷ []) Γ s))

  -- a function begins: its locals are made, and its arguments stored
  pub begins : (ls : List Local) (vs : List Val) → Passed ls vs → (Γ : List (Item 𝓤)) (G : Env 𝓤 H → Goal 𝓤 H)
      → ((bs : Blocks ls) → Sq (cells 𝓤 H (env_at 𝓤 H ls bs) (none ∷ map some vs) ++ Γ) (G (env_at 𝓤 H ls bs)))
      → Sq Γ (allocs ls (λ E. params' E vs (G E)))
  begins [] vs wt Γ G k = absurd wt
  begins (local τ h ∷ ls) vs wt Γ G k =
      made (local τ h ∷ ls) Γ (λ E. params' E vs (G E))
      (λ bs. params1 ! $ past (‵ (froom τ bs.0 zero) ∷ ‵ (fdies τ bs.0) ∷ []) (cells 𝓤 H (env_at 𝓤 H ls bs.1) []) Γ
      (stored ls bs.1 vs wt (‵ (froom τ bs.0 zero) ∷ ‵ (fdies τ bs.0) ∷ Γ) (G ((τ, bs.0) ∷ env_at 𝓤 H ls bs.1))
      (past (cells 𝓤 H (env_at 𝓤 H ls bs.1) (map some vs)) (‵ (froom τ bs.0 zero) ∷ ‵ (fdies τ bs.0) ∷ []) Γ (k bs))))

  -- a call's operands are copied from locals, with what it asks at the head
  pub reads : (E : Env 𝓤 H) (hs : List (Option Val)) (js : List ℕ) (vs : List Val) (i : Item 𝓤) (Γ : List (Item 𝓤))
      → AllHolding 𝓤 H E hs js vs → Opds (Go {0}) 𝓛 (i ∷ (cells 𝓤 H E hs ++ Γ)) E (map copied js) vs
  reads E hs [] [] i Γ z = no_more !
  reads E hs [] (v ∷ vs) i Γ z = absurd z
  reads E hs (j ∷ js) [] i Γ z = absurd z
  reads E hs (j ∷ js) (v ∷ vs) i Γ z = and_then ! (load ! (from ! (stop !)) (look ! (suc (twice j)) (stands 𝓛 E hs j v Γ z.0)))
      (reads E hs js vs i Γ z.1)

  -- every local is freed
  freed : (E : Env 𝓤 H) (hs : List (Option Val)) (Γ : List (Item 𝓤)) (G : Goal 𝓤 H) → Sq Γ G → Sq (cells 𝓤 H E hs ++ Γ) (frees E G)
  freed [] hs Γ G s = free0 ! $ s
  freed (e ∷ E) [] Γ G s = free1 ! $ freed E [] Γ G s
  freed (e ∷ E) (none ∷ hs) Γ G s = free1 ! $ freed E hs Γ G s
  freed (e ∷ E) (some v ∷ hs) Γ G s = forget ! 0 refl $ free1 ! $ freed E hs Γ G s

  -- a function ends: a call's result is its own, and its locals are freed
  pub ends : (C : Calls 𝓤 H) (Λ : Loops 𝓤 H) (τ : Ty) (b : ℕ) (E : Env 𝓤 H) (hs : List (Option Val)) (v : Val) (Kf : Val → SProp 𝓤)
      → Holds (has_ty τ v) × WT v → (Γ : List (Item 𝓤)) → Sq Γ (prop (Kf v))
      → Sq (cells 𝓤 H ((τ, b) ∷ E) (none ∷ hs) ++ Γ) (lands C Λ ((τ, b) ∷ E) (place 0 []) v return (at_ret ((τ, b) ∷ E) Kf))
  ends C Λ τ b E hs v Kf wt Γ s = land ! (from ! (stop !)) (init ! 0 refl wt) $ returns ! (look ! 0 refl) $ freed ((τ, b) ∷ E)
      (some v ∷ hs) Γ (prop (Kf v)) s
