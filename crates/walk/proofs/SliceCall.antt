-- A call that takes a slice of structs meets its contract: one theorem for all of them. What a call's proof still says is to which
-- function g it hands what the walk found, how its other arguments get there, what g says, and that this is what the call promises.
use mathlib.Core.Path.{◌≡◌, sym, subst}
use Prim.Native.Nat.{ℕ, suc}
use mathlib.Core.List.{List, [], ◌∷◌, ◌++◌}
use seplogic.Ra.Ura.{Ura}
use mir.Syntax.{named, w8, Callee, Local, Body, Fn}
use mir.Val.{Val}
use base.Logic.{SProp, ent, sep, ex, emp, via, fst∗, snd∗}
use base.Fml.{ftrue, fsep}
use prog.Model.{Model}
use prog.Routine.{Routine, Env as Meanings}
use prog.Wp.{Calls, Loops, WpFn, Closed}
use types.Logic.{Logic, sem}
use contract.Lifetimes.{Lfts, Shares, toks}
use contract.Monad.{fact, fact_use}
use contract.Running.{Running, tables, tables_of}
use types.Kit.{‵, raw, ◌⊛◌, some, show, ◌$◌, ◌∵◌, !, qed, move, split, pick, fjoin, done}
use denote.RattleType.{RattleType, Denots, Valss, flat, owns}
use denote.Laws.{Ises, Are, Spells, Tellss, valss, showss, owns_show, all_tell}
use denote.Plain.{uint_vals, uint_Tells}
use denote.Builtin.{u8, u32}
use denote.Ref.{Bor}
use denote.Slice.{ShrSlice, shr_slice_vals, shr_slice_Tells}
use denote.Signature.{Slot, types_at}
use denote.Steps.{heard, nothing}
use denote.Triple.Statement.{Contract, Triple}
use denote.Triple.End.{Kepts, Fins, lasts_of}
use denote.Triple.Table.{entered, cited}
use denote.Triple.Walked.{says}
use denote.Triple.Clauses.{closing}
use denote.Triple.Spec.{triple_of}
use Rattle.walk.proofs.Form.{Shape}
use Rattle.walk.proofs.Form as F
use Rattle.walk.proofs.Straight.{Typed}
use Rattle.walk.proofs.SliceWalk as SW

module _ (form : Shape) (me : Callee) (Ready : form.Found.D → Type 0)
    (ready : (n lm : ℕ) (ys : List form.Elem.D) (l : form.Found.D) → form.Says n lm ys l → Ready l) where
  -- g's parameters after what was found are ss. It says Θ of what was found, and the call promises Ψ of what was handed over.
  module _ {M : Type 1} {𝓤 : Ura M} (𝓛 : Logic 𝓤) (𝓜 : Model 𝓤 𝓛.H) (𝓡 : Running 𝓤 𝓛.H 𝓜) {k : ℕ} (ss : List (Slot k))
      (ks : Kepts ss)
      (Θ : (κs : Lfts k) (a : Denots (types_at ss κs)) → form.Found.D → ℕ → Fins κs ss ks a → Type 0)
      (Ψ : (κs : Lfts k) (a : Denots (types_at ss κs)) → ℕ → ℕ → List form.Elem.D → ℕ → Fins κs ss ks a → Type 0)
      (so : (κs : Lfts k) (a : Denots (types_at ss κs)) (n lm : ℕ) (ys : List form.Elem.D) (l : form.Found.D) (r : ℕ)
      (ws : Fins κs ss ks a) → form.Says n lm ys l → Θ κs a l r ws → Ψ κs a n lm ys r ws) where
    open 𝓛 use {H}

    abbrev Types : Lfts (suc k) → List RattleType
    Types κs = u8 ∷ u8 ∷ ShrSlice (named 0) κs.0 (F.ElemRow form) ∷ types_at ss κs.1

    -- what g says behind its answer, and what the call does
    module _ (κs : Lfts k) (a : Denots (types_at ss κs)) where
      abbrev Said : form.Found.D → ℕ → Unit {0} × Fins κs ss ks a → SProp 𝓤
      Said l r ws = sep 𝓤 (sem 𝓛 (fsep ftrue (lasts_of κs ss ks a ws.1))) (fact 𝓤 (Θ κs a l r ws.1))

      abbrev Promised : ℕ → ℕ → List form.Elem.D → ℕ → Unit {0} × (Unit {0} × (Unit {0} × Fins κs ss ks a)) → SProp 𝓤
      Promised n lm ys r ws = sep 𝓤 (sem 𝓛 (fsep ftrue (fsep ftrue (fsep ftrue (lasts_of κs ss ks a ws.1.1.1)))))
          (fact 𝓤 (Ψ κs a n lm ys r ws.1.1.1))

      kept : (n lm : ℕ) (ys : List form.Elem.D) (l : form.Found.D) → form.Says n lm ys l → (r : ℕ)
          → ent 𝓤 (ex 𝓤 (Said l r)) (ex 𝓤 (Promised n lm ys r))
      kept n lm ys l is r =
          qed 𝓛 (some (λ (ws : Unit {0} × Fins κs ss ks a). ‵ (fsep ftrue (lasts_of κs ss ks a ws.1)) ⊛ raw
          (fact 𝓤 (Θ κs a l r ws.1))) ∷ []) ∵ pick ! (λ ws. split ! $ move ! (1 ∷ []) $ heard ! (Θ κs a l r ws.1) (λ θ.
          show ! (Promised n lm ys r) (tt, (tt, ws)) $
          says ! (so κs a n lm ys l r ws.1 is θ) $ nothing ! $ fjoin ! $ nothing ! $ fjoin ! $ done !))

    -- the two contracts, as the signatures and the clauses say them
    abbrev OfG : Contract 𝓤
    OfG = record {
      Ghost = ((κs : Lfts k) × (qs : Shares k) × Unit
          {0} × (a : form.Found.D × Denots (types_at ss κs)) × (List Val × Valss (types_at ss κs))) × Unit {0};
      args = λ y. y.0.4.0 ++ flat (types_at ss y.0.0) y.0.4.1;
      pre = λ y. sep 𝓤 (sep 𝓤 (toks 𝓛 k y.0.0 y.0.1)
          (sem 𝓛 (fsep ((F.FoundRow form).own_val y.0.3.0 y.0.4.0)
          (owns (types_at ss y.0.0) y.0.3.1 y.0.4.1)))) (fact 𝓤 (Ready y.0.3.0));
      post = λ y v. H.⇛ (ex 𝓤 (λ (r : ℕ). sep 𝓤 (sep 𝓤 (toks 𝓛 k y.0.0 y.0.1) (sem 𝓛 (u32.own_val r (v ∷ []))))
          (ex 𝓤 (Said y.0.0 y.0.3.1 y.0.3.0 r))));
    }

    abbrev Entry : (κs : Lfts (suc k)) (qs : Shares (suc k)) (a : Denots (Types κs)) → Valss (Types κs) → SProp 𝓤
    Entry κs qs a us = sep 𝓤 (toks 𝓛 (suc k) κs qs) (sem 𝓛 (owns (Types κs) a us))

    abbrev Exit : (κs : Lfts (suc k)) (qs : Shares (suc k)) (a : Denots (Types κs)) → Val → SProp 𝓤
    Exit κs qs a v = H.⇛ (ex 𝓤
        (λ (r : ℕ). sep 𝓤 (sep 𝓤 (toks 𝓛 (suc k) κs qs) (sem 𝓛 (u32.own_val r (v ∷ []))))
        (ex 𝓤 (Promised κs.1 a.1.1.1 a.0 a.1.0 a.1.1.0.now r))))

    abbrev Whole : Contract 𝓤
    Whole = record {
      Ghost = ((κs : Lfts (suc k)) × (qs : Shares (suc k)) × Unit {0} × (a : Denots (Types κs)) × Valss (Types κs)) × Unit {0};
      args = λ y. flat (Types y.0.0) y.0.4;
      pre = λ y. sep 𝓤 (Entry y.0.0 y.0.1 y.0.3 y.0.4) (emp 𝓤);
      post = λ y. Exit y.0.0 y.0.1 y.0.3;
    }

    -- sp spells the machine values of ss, and tl has that their relations tell them: a number's or a lent value's by its first part, a
    -- slice's by that part's first
    module _ (sp : (κs : Lfts k) → Spells (types_at ss κs)) (tl : (κs : Lfts k) → Tellss (types_at ss κs) (Ises (types_at ss κs)) (sp κs))
        (env : Meanings) (routine : Routine)
        (met-list : Triple 𝓤 (𝓡.run routine)
        (triple_of 𝓛 (F.ended form).signature (closing 𝓛 (F.ended form) (F.clauses form 𝓤))))
        (calls-list : env me ≡ routine) (g : Callee) (G : Routine) (calls-g : env g ≡ G) (met : Triple 𝓤 (𝓡.run G) OfG) where
      abbrev C : Calls 𝓤 H
      C = (tables 𝓤 H 𝓜 𝓡 env).C

      abbrev Λ : Loops 𝓤 H
      Λ = (tables 𝓤 H 𝓜 𝓡 env).Λ

      abbrev valss_of : (κs : Lfts k) → Denots (types_at ss κs) → Valss (types_at ss κs)
      valss_of κs a = valss (types_at ss κs) (sp κs) a

      abbrev vals : (κs : Lfts k) → Denots (types_at ss κs) → List Val
      vals κs a = flat (types_at ss κs) (valss_of κs a)

      abbrev Rel : (κs : Lfts k) → Denots (types_at ss κs) → Type 0
      Rel κs a = Are (types_at ss κs) (Ises (types_at ss κs)) a (valss_of κs a)

      abbrev Spelled : (κs : Lfts (suc k)) → Spells (Types κs)
      Spelled κs = (uint_vals w8, (uint_vals w8, (shr_slice_vals, sp κs.1)))

      -- f is the call's code: between the two calls, from where what was found lands in the local d, it goes on by rest, and g is called
      -- by copies of the locals js
      module _ (f : Fn) {ls : List Local} {d : ℕ} {rest : Body}
          (is-arc : ◌≡◌ {A = List Local × Body} (f.locals, f.body)
          (SW.arc_locals form me Ready ready ls, SW.arc_body form me Ready ready d rest)) (js : List ℕ)
          (ts : (κs : Lfts k) → Denots (types_at ss κs) → List Val)
          (fits : (κs : Lfts k) (a : Denots (types_at ss κs)) → Rel κs a → Typed ls (vals κs a))
          (goes_on : (n lm : ℕ) (xs : Bor (List form.Elem.D)) (κs : Lfts k) (a : Denots (types_at ss κs)) → Rel κs a
          → SW.GoesOn form me Ready ready 𝓛 ls js n lm xs (vals κs a) (ts κs a) C Λ d rest g)
          (passes : (n lm : ℕ) (xs : Bor (List form.Elem.D)) (κs : Lfts k) (a : Denots (types_at ss κs))
          → SW.Passes form me Ready ready 𝓛 ls js n lm xs (vals κs a) (ts κs a)) where
        runs_at : (κs : Lfts (suc k)) (qs : Shares (suc k)) (a : Denots (Types κs))
            → Are (Types κs) (Ises (Types κs)) a (valss (Types κs) (Spelled κs) a)
            → ent 𝓤 (Entry κs qs a (valss (Types κs) (Spelled κs) a))
            (WpFn 𝓤 H C Λ f (flat (Types κs) (valss (Types κs) (Spelled κs) a)) (Exit κs qs a))
        unfolding tables_of
        runs_at κs qs (n, (lm, (xs, a))) are =
            SW.walk form me Ready ready 𝓛 n lm κs.0 qs.0 xs are.0.1 are.1.0.1
            (tables_of 𝓤 H 𝓜 (tables 𝓤 H 𝓜 𝓡 env))
            (cited 𝓤 H (SW.ListC form me Ready ready 𝓛 n lm κs.0 qs.0 xs) 𝓜 𝓡 env me routine calls-list met-list)
            ls g (vals κs.1 a) (toks 𝓛 k κs.1 qs.1) (owns (types_at ss κs.1) a (valss_of κs.1 a))
            (λ l r. ex 𝓤 (Said κs.1 a l r)) (λ r. ex 𝓤 (Promised κs.1 a n lm xs.now r))
            (λ l u. cited 𝓤 H OfG 𝓜 𝓡 env g G calls-g met ((κs.1, qs.1, tt, (l, a), (u ∷ [], valss_of κs.1 a)), tt))
            (kept κs.1 a n lm xs.now)
            are.1.1.0.0.1 (fits κs.1 a are.1.1.1) f d rest is-arc js (ts κs.1 a)
            (goes_on n lm xs κs.1 a are.1.1.1) (passes n lm xs κs.1 a)

        pub slice_call : (name : Callee) → Closed 𝓤 H C Λ name f → Triple 𝓤 (C name) Whole
        slice_call name closed = entered 𝓤 H Whole C Λ name f closed (λ y.
            let κs : Lfts (suc k) = y.0.0 in
            let a : Denots (Types κs) = y.0.3 in
            let us : Valss (Types κs) = y.0.4 in
            let E : Valss (Types κs) → SProp 𝓤 = Entry κs y.0.1 a in
            let O : SProp 𝓤 = sem 𝓛 (owns (Types κs) a us) in
            let P : Valss (Types κs) → Type 0 = Are (Types κs) (Ises (Types κs)) a in
            let tells : P us → us ≡ valss (Types κs) (Spelled κs) a =
            all_tell (Types κs) (Ises (Types κs)) (Spelled κs)
            (uint_Tells w8, (uint_Tells w8, (shr_slice_Tells (named 0) κs.0 (F.ElemRow form), tl κs.1))) a us in
            via 𝓤 (E us) (fst∗ 𝓤 (E us) (emp 𝓤))
            (fact_use 𝓤 (P us) (via 𝓤 O (snd∗ 𝓤 (toks 𝓛 (suc k) κs y.0.1) O)
            (owns_show 𝓛 (Types κs) (Ises (Types κs)) (showss 𝓛 (Types κs)) a us))
            (λ is. subst (λ (vs : Valss (Types κs)). ent 𝓤 (E vs) (WpFn 𝓤 H C Λ f (flat (Types κs) vs) (Exit κs y.0.1 a)))
            (sym (tells is)) (runs_at κs y.0.1 a (subst P (tells is) is)))))
