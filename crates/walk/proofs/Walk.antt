-- The walk of the form's code, by hand, once for every struct: a function of the form meets its contract where the four that it calls meet
-- theirs.
use mathlib.Core.Path.{◌≡◌, refl, sym, subst}
use Prim.Native.Nat.{ℕ}
use mathlib.Core.List.{List, [], ◌∷◌}
use lib.ListN.{length}
use lib.Dec.{lit<}
use seplogic.Ra.Ura.{Ura}
use base.Fraction.{full_share}
use mir.Syntax.{Fn, Callee, named, w8, w32, w64}
use mir.Val.{Val, vint}
use base.Logic.{SProp, ent, emp, id⊢, via, fst∗}
use base.Fml.{froom}
use prog.Wp.{Wp, at_return, WpFn, Tables, Closed}
use types.Logic.{Logic}
use contract.Monad.{fact}
use sound.WpLaws.{fm_of, WpFn-mono}
use types.Kit.{Go, Seq, runs, ‵, raw, ⋆, at_ret, ◌$◌, ◌∵◌, !, qed, by, move, keep, drop, use1, use2, split, pick, fsplit, fjoin}
use types.Kit.{await}
use types.Part.{whole, sub, look_in}
use types.Run.{look, store, init, forget, stop, fld, from, load, lit, of_opd, and_then, no_more, assigns, land, enter, alloc1, alloc0}
use types.Run.{params1, pass1, pass0, exec}
use denote.Laws.{Is, shows}
use denote.Plain.{uint_Makes, uint_Lawful, uint_vals, uint_Tells}
use denote.Builtin.{u8, u32, usize}
use denote.Slice.{slice_val, shr_slice_vals, shr_slice_Tells}
use denote.Signature.{plain}
use borrow.Table.OneValue.{part_in}
use denote.Steps.{owned, peeks, heard, nothing}
use denote.Triple.Statement.{Contract, Triple}
use denote.Triple.Call.{calls_at}
use denote.Triple.Entry.{on_entry}
use denote.Triple.Spec.{triple_of, Meets}
use denote.Triple.Walked.{Goes-none, Goes-none_slice, Walks, walked, walk_Meets}
use denote.Triple.Clauses.{closing}
use denote.Exit.{yes as held}
use denote.Triple.Table.{entered, cited}
use prog.Model.{Model}
use prog.Routine.{Routine, Env as Meanings}
use contract.Running.{Running, tables, tables_of}
use Rattle.walk.proofs.Form.{Form, Behind, ElemRow, MadeRow, ended, clauses}
use Rattle.walk.proofs.FormCode.{number_m, word, beginning, body, function}
use Rattle.walk.proofs.Stack.{Input, Blocks, En, x, at, Tokens, Params, Made, Stack, Early}
use Rattle.walk.proofs.Calls.{Known, Before, Begin, Add, Finish, to_before, asked_before, said_before, before_gives, to_begin}
use Rattle.walk.proofs.Calls.{asked_begin, said_begin, begin_gives, made_typed}
use Rattle.walk.proofs.Ending.{stayed, Post}
use Rattle.walk.proofs.Loop.{loops}

module _ {form : Form} (held_by : Behind form) {M : Type 1} {𝓤 : Ura M} (𝓛 : Logic 𝓤) (input : Input form)
    (𝓣 : Tables 𝓤 𝓛.H) (known : Known form 𝓛 𝓣) where
  open 𝓛 use {H}
  open input use {n, lm, b, o, ys, n_fits, lm_fits, room}

  module _ (bs : Blocks) where
    -- `begin` is called, and the loop runs
    headers : (f : ℕ) (u : Val) → form.Early n lm (length ys) f
        → ent 𝓤 (⋆ 𝓛 (Early input bs f u))
        (Wp 𝓤 H 𝓣.C 𝓣.Λ (En form bs) (beginning form) (at_return 𝓤 H (En form bs) (Post 𝓛 input)))
    headers f u e =
        qed 𝓛 (Early input bs f u) ∵ exec ! 𝓣.C 𝓣.Λ (En form bs) (beginning form) (at_ret (En form bs) (Post 𝓛 input)) $
        assigns ! (of_opd ! (load ! (from ! (fld ! refl (stop !))) (look_in ! 23 (sub ! 1 refl (whole !))))) (from ! (stop !))
        (store ! 13 refl (tt, record { fits = room.0 })) $
        nothing ! $ owned ! usize (Is usize) (uint_Makes 𝓛 w64) (length ys) _ (refl, room.0) $ fjoin ! $ owned ! u8 (Is u8)
        (uint_Makes 𝓛 w8) lm _ (refl, lm_fits) $ fjoin ! $
        owned ! u8 (Is u8) (uint_Makes 𝓛 w8) n _ (refl, n_fits) $ fjoin ! $ nothing ! $ use2 𝓛
        (raw ((Begin form 𝓛).pre (to_begin 𝓛 input))) (asked_begin 𝓛 input) $
        calls_at ! (fm_of 𝓤 H 𝓛.laws 𝓣) (Begin form 𝓛) known.begin (to_begin 𝓛 input)
        (and_then ! (load ! (from ! (stop !)) (look ! 28 refl))
        (and_then ! (load ! (from ! (stop !)) (look ! 26 refl))
        (and_then ! (load ! (from ! (stop !)) (look ! 14 refl)) (no_more !)))) (λ w.
        use1 𝓛 (begin_gives 𝓛 input w) (id⊢ 𝓤 _) $ await ! tt $ pick !
        (λ h. split ! $ move ! (1 ∷ []) $ use1 𝓛 (raw (fact 𝓤 (form.Begun n lm (length ys) h))) (said_begin 𝓛 input h) $ heard !
        (form.Begun n lm (length ys) h) (λ e'. split ! $ drop ! $
        peeks ! (MadeRow form) (Is (MadeRow form)) (shows 𝓛 (MadeRow form)) h (w ∷ []) (λ is.
        land ! (from ! (stop !)) (init ! 12 refl (made_typed 𝓛 input h w is)) $
        assigns ! (of_opd ! (load ! (from ! (stop !)) (look ! 12 refl))) (from ! (stop !)) (init ! 20 refl (made_typed 𝓛 input h w is)) $
        forget ! 12 refl $ move ! (20 ∷ 0 ∷ []) $
        use2 𝓛 (Made input bs h) (part_in 𝓛 (MadeRow form) refl full_share h bs.5 0 w) $
        assigns ! (of_opd ! (lit ! tt)) (from ! (stop !)) (init ! 18 refl (tt, record { fits = lit< tt })) $
        move ! (32 ∷ []) $ fsplit ! $ drop ! $ fsplit ! $ drop ! $ fsplit ! $ fsplit ! $ move ! (34 ∷ []) $ split ! $
        forget ! 19 refl $ keep !
        (26 ∷ 6 ∷ 23 ∷ 21 ∷ 13 ∷ 15 ∷ 11 ∷ 9 ∷ 28 ∷ 34 ∷ 0 ∷ 3 ∷ 2 ∷ 32 ∷ 30 ∷ 19 ∷ 35 ∷ 33 ∷ 31 ∷ 29 ∷ 27 ∷ 25 ∷ 24 ∷ 22 ∷
        20 ∷ 18 ∷ 16 ∷ 14 ∷ 12 ∷ 10 ∷ 8 ∷ 17 ∷ 7 ∷ 5 ∷ []) $
        by ! (loops held_by 𝓛 input 𝓣 known bs f u h (held_by.none_behind n lm ys f h e e'))))))

    -- `before` is called first
    starts : Seq (Go {0}) 𝓛 (Stack input bs (‵ (froom word bs.8 0)) (‵ (froom number_m bs.4 0)))
        (runs 𝓣.C 𝓣.Λ (En form bs) (body form) (at_ret (En form bs) (Post 𝓛 input)))
    starts =
        assigns ! (of_opd ! (load ! (from ! (fld ! refl (stop !))) (look_in ! 22 (sub ! 1 refl (whole !))))) (from ! (stop !))
        (init ! 12 refl (tt, record { fits = room.0 })) $
        nothing ! $ owned ! usize (Is usize) (uint_Makes 𝓛 w64) (length ys) _ (refl, room.0) $ fjoin ! $ owned ! u8 (Is u8)
        (uint_Makes 𝓛 w8) lm _ (refl, lm_fits) $ fjoin ! $
        owned ! u8 (Is u8) (uint_Makes 𝓛 w8) n _ (refl, n_fits) $ fjoin ! $ nothing ! $ use2 𝓛
        (raw ((Before form 𝓛).pre (to_before 𝓛 input))) (asked_before 𝓛 input) $
        calls_at ! (fm_of 𝓤 H 𝓛.laws 𝓣) (Before form 𝓛) known.before (to_before 𝓛 input)
        (and_then ! (load ! (from ! (stop !)) (look ! 27 refl))
        (and_then ! (load ! (from ! (stop !)) (look ! 25 refl))
        (and_then ! (load ! (from ! (stop !)) (look ! 13 refl)) (no_more !)))) (λ u.
        use1 𝓛 (before_gives 𝓛 input u) (id⊢ 𝓤 _) $ await ! tt $ pick !
        (λ f. split ! $ move ! (1 ∷ []) $ use1 𝓛 (raw (fact 𝓤 (form.Early n lm (length ys) f))) (said_before 𝓛 input f) $ heard !
        (form.Early n lm (length ys) f) (λ e. split ! $ drop ! $
        peeks ! u32 (Is u32) (shows 𝓛 u32) f (u ∷ []) (λ is.
        land ! (from ! (stop !)) (init ! 21 refl ((uint_Lawful 𝓛 w32).typed f _ is).0) $ by ! (headers f u e)))))

  -- the locals are made and the arguments stored, and the body runs
  pub walk : ent 𝓤 (on_entry 𝓛 (ended form.shape).signature (input.κ, tt) (input.q, tt) (x input) (at input))
      (WpFn 𝓤 H 𝓣.C 𝓣.Λ (function form) (vint w8 n ∷ vint w8 lm ∷ slice_val (b, o) (length ys) ∷ []) (Post 𝓛 input))
  walk =
      qed 𝓛 (Tokens input ∷ Params input ∷ []) ∵ enter ! 𝓣.C 𝓣.Λ (function form)
      (vint w8 n ∷ vint w8 lm ∷ slice_val (b, o) (length ys) ∷ []) _ $
      alloc1 ! (λ l₀. alloc1 ! (λ l₁. alloc1 !
      (λ l₂. alloc1 ! (λ l₃. alloc1 !
      (λ l₄. alloc1 ! (λ l₅. alloc1 !
      (λ l₆. alloc1 ! (λ l₇. alloc1 !
      (λ l₈. alloc1 ! (λ l₉. alloc1 !
      (λ l₁₀. alloc1 ! (λ l₁₁. alloc1 ! (λ l₁₂. alloc1 ! (λ l₁₃. alloc1 ! (λ l₁₄. alloc0 ! $ params1 ! $
      pass1 ! (init ! 26 refl (tt, record { fits = n_fits })) $ pass1 ! (init ! 24 refl (tt, record { fits = lm_fits })) $ pass1 !
      (init ! 22 refl (tt, (tt, (record { fits = room.0 }, tt)))) $ pass0 ! $
      starts (l₀, l₁, l₂, l₃, l₄, l₅, l₆, l₇, l₈, l₉, l₁₀, l₁₁, l₁₂, l₁₃, l₁₄))))))))))))))))

-- a function of this form meets its contract where those that it calls meet theirs
module _ {form : Form} (held_by : Behind form) {M : Type 1} {𝓤 : Ura M} (𝓛 : Logic 𝓤) (𝓣 : Tables 𝓤 𝓛.H)
    (known : Known form 𝓛 𝓣) where
  open 𝓛 use {H}

  abbrev Runs : List Val → (Val → SProp 𝓤) → SProp 𝓤
  Runs = WpFn 𝓤 H 𝓣.C 𝓣.Λ (function form)

  walks : Walks 𝓛 (ended form.shape) (stayed form) Runs (clauses form.shape 𝓤)
  walks =
      walked 𝓛 (ended form.shape) (stayed form) (clauses form.shape 𝓤) Runs
      (λ κs. (uint_vals w8, (uint_vals w8, (shr_slice_vals, tt))))
      (λ κs. (uint_Tells w8, (uint_Tells w8, (shr_slice_Tells (named 0) κs.0 (ElemRow form.shape), tt))))
      (λ κs qs bounds a g are. via 𝓤 _ (fst∗ 𝓤 _ (emp 𝓤)) (walk held_by 𝓛 (record {
        n = a.0;
        lm = a.1.0;
        κ = κs.0;
        q = qs.0;
        b = a.1.1.0.ref_ptr.0;
        o = a.1.1.0.ref_ptr.1;
        ys = a.1.1.0.now;
        n_fits = are.0.1;
        lm_fits = are.1.0.1;
        room = are.1.1.0.0.1;
      }) 𝓣 known))

  pub meets : Meets 𝓛 (ended form.shape).signature Runs (closing 𝓛 (ended form.shape) (clauses form.shape 𝓤))
  meets =
      walk_Meets 𝓛 (ended form.shape) (stayed form) (
        Goes-none 𝓛 1 (λ _. u8) held (λ κs x f. refl),
        (
          Goes-none 𝓛 1 (λ _. u8) held (λ κs x f. refl),
          (Goes-none_slice 𝓛 1 (0 ∷ []) tt (plain (λ _. ElemRow form.shape)) held, tt),
        ),
      )
      (clauses form.shape 𝓤) Runs (WpFn-mono 𝓤 H 𝓛.laws 𝓣 (function form)) walks

-- the same from the callees' theorems, where env names what each runs, and fn is the code
module _ (form : Form) (held_by : Behind form) {M : Type 1} {𝓤 : Ura M} (𝓛 : Logic 𝓤) (𝓜 : Model 𝓤 𝓛.H)
    (𝓡 : Running 𝓤 𝓛.H 𝓜) (env : Meanings) where
  open 𝓛 use {H}

  abbrev Met : Callee → Contract 𝓤 → Type 1
  Met name c = (r : Routine) × (env name ≡ r) × Triple 𝓤 (𝓡.run r) c

  abbrev Whole : Contract 𝓤
  Whole = triple_of 𝓛 (ended form.shape).signature (closing 𝓛 (ended form.shape) (clauses form.shape 𝓤))

  known : (name : Callee) (c : Contract 𝓤) → Met name c → Triple 𝓤 ((tables 𝓤 H 𝓜 𝓡 env).C name) c
  known name c m = cited 𝓤 H c 𝓜 𝓡 env name m.0 m.1 m.2

  pub theorem : Met form.before (Before form 𝓛) → Met form.begin (Begin form 𝓛)
      → Met form.add (Add form 𝓛) → Met form.finish (Finish form 𝓛)
      → (fn : Fn) → fn ≡ function form → (name : Callee) → Closed 𝓤 H (tables 𝓤 H 𝓜 𝓡 env).C (tables 𝓤 H 𝓜 𝓡 env).Λ name fn
      → Triple 𝓤 ((tables 𝓤 H 𝓜 𝓡 env).C name) Whole
  unfolding tables_of
  theorem before begin add finish fn is name closed =
      entered 𝓤 H Whole (tables 𝓤 H 𝓜 𝓡 env).C (tables 𝓤 H 𝓜 𝓡 env).Λ name fn closed
      (subst (λ (f : Fn). Triple 𝓤 (WpFn 𝓤 H (tables 𝓤 H 𝓜 𝓡 env).C (tables 𝓤 H 𝓜 𝓡 env).Λ f) Whole) (sym is)
      (meets held_by 𝓛 (tables_of 𝓤 H 𝓜 (tables 𝓤 H 𝓜 𝓡 env)) (record {
        before = known form.before (Before form 𝓛) before;
        begin = known form.begin (Begin form 𝓛) begin;
        add = known form.add (Add form 𝓛) add;
        finish = known form.finish (Finish form 𝓛) finish;
      })))
