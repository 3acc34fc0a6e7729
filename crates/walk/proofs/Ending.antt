-- The end of the form's code: the loop is left, `finish` is called, and the locals are freed.
use mathlib.Core.Path.{refl}
use Prim.Native.Nat.{ℕ}
use mathlib.Core.Bool.{Bool}
use mathlib.Core.List.{List, [], ◌∷◌}
use lib.ListN.{length}
use seplogic.Ra.Ura.{Ura}
use base.Fraction.{full_share}
use mir.Syntax.{w8, w64, ty_bool}
use mir.Val.{Val, vbool, vint}
use base.Logic.{SProp, ent, id⊢}
use base.Fml.{fat, froom, flft}
use prog.Wp.{Out, after_seq, after_block, Wp, at_return, Tables}
use types.Logic.{Logic}
use contract.Monad.{fact}
use sound.WpLaws.{fm_of}
use types.Kit.{Item, ‵, raw, ◌⊛◌, some, ⋆, at_ret, ◌$◌, ◌∵◌, !, qed, by, move, drop, use1, use2, split, join, pick, fjoin, suffices}
use types.Kit.{frame, await, done}
use types.Run.{look, init, forget, stop, from, load, of_opd, and_then, no_more, assigns, land, returns, free1, free0, exec}
use denote.Laws.{Is, shows}
use denote.Plain.{uint_Makes}
use denote.Builtin.{u8, u32}
use denote.Signature.{plain}
use borrow.Table.OneValue.{part_out}
use denote.Steps.{owned, peeks, heard, nothing}
use denote.Struct.Laws as LL
use denote.Triple.Call.{calls_at}
use denote.Triple.Walked.{says, walk_of, ends_at, Stays, stay_none, stay_none_slice}
use denote.Exit.{yes as held}
use Rattle.walk.proofs.Form.{Form, Behind, ElemRow, FoundRow, MadeRow, elem_m, ended, clauses}
use Rattle.walk.proofs.FormCode.{number_m, word, made_m, ending}
use Rattle.walk.proofs.Stack.{Input, Blocks, En, x, at, Elems, Fact, At}
use Rattle.walk.proofs.Calls.{Known, Finish, made_typed, to_finish, asked_finish, said_finish, finish_gives}

-- at the end each parameter is still owned, as it was passed
abbrev pub stayed : (form : Form) → Stays (ended form.shape).signature.params (ended form.shape).kept
stayed form = (
  stay_none (λ _. u8) held,
  (stay_none (λ _. u8) held, (stay_none_slice (0 ∷ []) tt (plain (λ _. ElemRow form.shape)) held, tt)),
)

module _ {form : Form} {M : Type 1} {𝓤 : Ura M} (𝓛 : Logic 𝓤) (input : Input form) where
  open 𝓛 use {H}
  open input use {n, lm, κ, q, ys, n_fits, lm_fits}

  abbrev pub Post : Val → SProp 𝓤
  Post = (walk_of 𝓛 (ended form.shape) (stayed form) (clauses form.shape 𝓤)).post
      (((κ, tt), (q, tt), tt, x input, at input), tt)

  -- what is left when the locals are gone
  abbrev Out-of : form.shape.Found.D → Val → List (Item 𝓤)
  Out-of r v = ‵ ((FoundRow form.shape).own_val r (v ∷ [])) ∷ ‵ (flft κ q) ∷ Elems input ∷ Fact input ∷ []

  exits : (r : form.shape.Found.D) (v : Val) → form.shape.Says n lm ys r → ent 𝓤 (⋆ 𝓛 (Out-of r v)) (Post v)
  exits r v e =
      qed 𝓛 (Out-of r v) ∵
      suffices ! _ (ends_at 𝓛 (ended form.shape) (stayed form) (clauses form.shape 𝓤)
      (((κ, tt), (q, tt), tt, x input, at input), tt) v r (tt, (tt, (tt, tt))) (tt, (tt, (tt, tt)))) $ says ! e $
      nothing ! $ move ! (2 ∷ 0 ∷ []) $ join ! $ move ! (3 ∷ 2 ∷ []) $ fjoin ! $ nothing ! $ move ! (1 ∷ 0 ∷ []) $ fjoin ! $
      owned ! u8 (Is u8) (uint_Makes 𝓛 w8) lm _ (refl, lm_fits) $ fjoin ! $ owned ! u8 (Is u8) (uint_Makes 𝓛 w8) n _
      (refl, n_fits) $ fjoin ! $
      move ! (1 ∷ 0 ∷ []) $ frame ! $ frame ! $ done !

  module _ (𝓣 : Tables 𝓤 H) (bs : Blocks) where
    -- when the loop is left, the rest of the body runs
    abbrev pub Ends : SProp 𝓤
    Ends = Wp 𝓤 H 𝓣.C 𝓣.Λ (En form bs) (ending form) (at_return 𝓤 H (En form bs) Post)

    abbrev pub Left : Out → SProp 𝓤
    Left = after_block 𝓤 H (after_seq 𝓤 H Ends (at_return 𝓤 H (En form bs) Post))

    -- the loop is left after i structs, and _10 holds t
    abbrev pub Gone : ℕ → ℕ → Val → List ℕ → Bool → List (Item 𝓤)
    Gone i f u h t =
        ‵ (fat full_share number_m bs.4 0 u) ∷ ‵ (u32.own_val f (u ∷ [])) ∷ ‵ (fat full_share word bs.6 0 (vint w64 i))
        ∷ ‵ (froom (elem_m form.shape) bs.7 0) ∷ ‵ (froom word bs.11 0) ∷ ‵ (fat full_share ty_bool bs.10 0 (vbool t))
        ∷ lib.ListN.drop 6 (At input bs i f u h)

    pub finishes : Known form 𝓛 𝓣 → (held_by : Behind form) (i f : ℕ) (u : Val) (h : List ℕ) (t : Bool)
        → held_by.Behind n lm ys (length ys) f h → ent 𝓤 (⋆ 𝓛 (Gone i f u h t)) Ends
    finishes known held_by i f u h t e =
        qed 𝓛 (Gone i f u h t) ∵ exec ! 𝓣.C 𝓣.Λ (En form bs) (ending form) (at_ret (En form bs) Post) $
        move ! (33 ∷ []) $ use1 𝓛 (some (λ (w : Val). ‵ (fat full_share (made_m form) bs.5 0 w) ⊛ ‵ ((MadeRow form).own_val h (w ∷ []))))
        (part_out 𝓛 (MadeRow form) refl full_share h bs.5 0) $ pick ! (λ w. split ! $ move ! (1 ∷ 0 ∷ []) $
        peeks ! (MadeRow form) (Is (MadeRow form)) (shows 𝓛 (MadeRow form)) h (w ∷ []) (λ is₅.
        assigns ! (of_opd ! (load ! (from ! (stop !)) (look ! 1 refl))) (from ! (stop !)) (init ! 33 refl (made_typed 𝓛 input h w is₅)) $
        nothing ! $ move ! (1 ∷ 0 ∷ []) $ fjoin ! $ move ! (3 ∷ 0 ∷ []) $ fjoin ! $ nothing ! $
        use2 𝓛 (raw ((Finish form 𝓛).pre (to_finish 𝓛 input f u h w))) (asked_finish 𝓛 input f u h w) $
        calls_at ! (fm_of 𝓤 H 𝓛.laws 𝓣) (Finish form 𝓛) known.finish (to_finish 𝓛 input f u h w)
        (and_then ! (load ! (from ! (stop !)) (look ! 2 refl)) (and_then ! (load ! (from ! (stop !)) (look ! 32 refl)) (no_more !)))
        (λ v.
        use1 𝓛 (finish_gives 𝓛 input f u h w v) (id⊢ 𝓤 _) $ await ! tt $ pick ! (λ r. split ! $ move ! (1 ∷ []) $
        use1 𝓛 (raw (fact 𝓤 (form.Finished f h r))) (said_finish 𝓛 input f u h w r) $ heard ! (form.Finished f h r)
        (λ p. split ! $ drop ! $
        -- [what the result owns; _5; _4; _6; …; _0 at 10; the token; the structs; the fact; …]
        peeks ! (FoundRow form.shape) (Is (FoundRow form.shape)) (shows 𝓛 (FoundRow form.shape)) r (v ∷ []) (λ is.
        land ! (from ! (stop !)) (init ! 10 refl ((LL.lawful form.shape.Found form.shape.found_laws 𝓛).typed r _ is).0) $
        returns ! (look ! 10 refl) $ forget ! 1 refl $ forget ! 2 refl $ forget ! 3 refl $ forget ! 6 refl $ forget ! 9 refl $
        forget ! 10 refl $ forget ! 14 refl $ forget ! 15 refl $ forget ! 32 refl $
        move ! (10 ∷ 17 ∷ []) $ free1 ! $ move ! (13 ∷ 16 ∷ []) $ free1 ! $ move ! (13 ∷ 15 ∷ []) $ free1 ! $ move !
        (9 ∷ 14 ∷ []) $ free1 ! $ move ! (2 ∷ 13 ∷ []) $ free1 ! $
        move ! (1 ∷ 12 ∷ []) $ free1 ! $ move ! (1 ∷ 11 ∷ []) $ free1 ! $ move ! (1 ∷ 10 ∷ []) $ free1 ! $ move !
        (8 ∷ 9 ∷ []) $ free1 ! $ move ! (14 ∷ 8 ∷ []) $ free1 ! $
        move ! (2 ∷ 8 ∷ []) $ free1 ! $ move ! (1 ∷ 7 ∷ []) $ free1 ! $ move ! (1 ∷ 6 ∷ []) $ free1 ! $ move !
        (1 ∷ 5 ∷ []) $ free1 ! $ move ! (5 ∷ 4 ∷ []) $ free1 ! $
        free0 ! $ by ! (exits r v (held_by.all_behind n lm ys f h r e p))))))))
