-- The walk of a call that takes a slice of structs. Its code is straight: it calls the function that walks the slice, and hands what was
-- found, with its other arguments, to one more function, g. Of the two it is known that they meet their contracts, and of the other
-- arguments where they stand.
use mathlib.Core.Path.{◌≡◌, refl, sym, subst}
use Prim.Native.Nat.{ℕ, ◌<◌, ◌^◌}
use mathlib.Core.Option.{Option, none, some as held}
use mathlib.Core.List.{List, [], ◌∷◌, ◌++◌, map}
use lib.Dec.{T as Holds}
use lib.ListN.{length}
use seplogic.Ra.Ura.{Ura}
use mir.Syntax.{named, imm, w8, w32, ty_int, ty_ref, Callee, Local, local, value_local, Body, seq, call, place, return, Fn}
use mir.Val.{Val, vint, has_ty, WT}
use base.Logic.{SProp, ent, sep, ex, emp, snd∗, ex_e, id⊢}
use base.Fml.{Lft, Share, Fml, ftrue, fsep, flft}
use prog.Wp.{Heap, Env, Calls, Loops, WpFn, Tables}
use types.Logic.{Logic, sem}
use contract.Monad.{fact, fact_i}
use types.Kit.{Item, ‵, raw, ◌⊛◌, some, later, Post, at_ret, prop, runs, lands, allocs, params', updating, now as at_once, show, ◌$◌}
use types.Kit.{◌∵◌, !, qed, move, drop, use0, use1, use2, split, join, pick, fsplit, fjoin, frame, await, done}
use types.Run.{enter}
use sound.WpLaws.{fm_of}
use denote.Memory.{pointee}
use denote.Laws.{Is, shows}
use denote.Plain.{uint_Makes, uint_Lawful}
use denote.Builtin.{u8, u32}
use denote.Ref.{Bor}
use denote.Slice.{slice_ty, slice_val, ShrSlice, shr_slice_vals, Room}
use denote.Steps.{owned, peeks, heard, nothing}
use denote.Struct.Laws as LL
use denote.Triple.Statement.{Contract, Triple}
use denote.Triple.Call.{calls_at, calls_from}
use denote.Triple.Clauses.{ensured, lasts}
use denote.Triple.Spec.{triple_of}
use denote.Triple.Clauses.{closing}
use Rattle.walk.proofs.Form.{Shape}
use Rattle.walk.proofs.Form as F
use Rattle.walk.proofs.Straight.{Blocks, Typed, copied, env_at, cells, AllHolding, Sq, past, begins, reads, ends}

module _ (form : Shape) (me : Callee) (Ready : form.Found.D → Type 0)
    (ready : (n lm : ℕ) (ys : List form.Elem.D) (l : form.Found.D) → form.Says n lm ys l → Ready l) where
  -- the call's locals: the answer, n, LMAX, the arcs, and the others
  abbrev pub arc_locals : List Local → List Local
  arc_locals ls = local (ty_int w32) value_local ∷ local (ty_int w8) value_local ∷ local (ty_int w8) value_local ∷ local
      (slice_ty (ty_ref (named 0) imm (pointee (F.ElemRow form).written))) value_local ∷ ls

  -- the call's code: what `list` returns lands in the local d
  abbrev pub arc_body : ℕ → Body → Body
  arc_body d rest = seq (call me (map copied (1 ∷ 2 ∷ 3 ∷ [])) (place d [])) rest

  -- its end: g is called by copies of the locals js, and the answer is what it returns
  abbrev pub hands_to : Callee → List ℕ → Body
  hands_to g js = seq (call g (map copied js) (place 0 [])) return

  -- what the locals after the answer hold: n, LMAX, the arcs, and hs
  abbrev Held : ℕ → ℕ → Bor (List form.Elem.D) → List (Option Val) → List (Option Val)
  Held n lm xs hs = held (vint w8 n) ∷ held (vint w8 lm) ∷ held (slice_val xs.ref_ptr (length xs.now)) ∷ hs

  module _ {M : Type 1} (𝓤 : Ura M) (H : Heap 𝓤) (ls : List Local) (bs : Blocks (arc_locals ls)) where
    abbrev Locals : Env 𝓤 H
    Locals = env_at 𝓤 H (arc_locals ls) bs

    abbrev Cells : ℕ → ℕ → Bor (List form.Elem.D) → List (Option Val) → List (Item 𝓤)
    Cells n lm xs hs = cells 𝓤 H Locals (none ∷ Held n lm xs hs)

  -- Between the two calls: the other arguments vs are in their locals, what was found follows them, and the locals after it come to
  -- hold ts.
  module _ {M : Type 1} {𝓤 : Ura M} (𝓛 : Logic 𝓤) (ls : List Local) (js : List ℕ) (n lm : ℕ)
      (xs : Bor (List form.Elem.D)) (vs ts : List Val) where
    open 𝓛 use {H}

    abbrev Filled : Val → List (Option Val)
    Filled u = map held vs ++ (held u ∷ map held ts)

    -- the code goes on by rest to the call of g
    abbrev pub GoesOn : Calls 𝓤 H → Loops 𝓤 H → ℕ → Body → Callee → Type 2
    GoesOn C Λ d rest g = (K : Val → SProp 𝓤) (bs : Blocks (arc_locals ls)) (u : Val) → Holds (has_ty (F.found_m form) u) × WT u
        → (Γ : List (Item 𝓤))
        → Sq 𝓛 (Cells 𝓤 H ls bs n lm xs (Filled u) ++ Γ) (runs C Λ (Locals 𝓤 H ls bs) (hands_to g js) (at_ret (Locals 𝓤 H ls bs) K))
        → Sq 𝓛 (Cells 𝓤 H ls bs n lm xs (map held vs) ++ Γ) (lands C Λ (Locals 𝓤 H ls bs) (place d []) u rest (at_ret (Locals 𝓤 H ls bs) K))

    -- the locals js hold what was found, and vs
    abbrev pub Passes : Type 0
    Passes = (bs : Blocks (arc_locals ls)) (u : Val) → AllHolding 𝓤 H (Locals 𝓤 H ls bs) (none ∷ Held n lm xs (Filled u)) js (u ∷ vs)

  module _ {M : Type 1} {𝓤 : Ura M} (𝓛 : Logic 𝓤) (n lm : ℕ) (κ : Lft) (q : Share)
      (xs : Bor (List form.Elem.D)) where
    open 𝓛 use {H, A}

    abbrev pub ListC : Contract 𝓤
    ListC = triple_of 𝓛 (F.ended form).signature (closing 𝓛 (F.ended form) (F.clauses form 𝓤))

    abbrev Found : form.Found.D → Type 0
    Found l = form.Says n lm xs.now l

    abbrev args : ℕ × (ℕ × (Bor (List form.Elem.D) × Unit {0}))
    args = (n, (lm, (xs, tt)))

    abbrev to : ListC.Ghost
    to = (((κ, tt), (q, tt), tt, args, (vint w8 n ∷ [], (vint w8 lm ∷ [], (shr_slice_vals xs, tt)))), tt)

    -- what the arcs own, and what was found
    abbrev Arcs : Fml
    Arcs = (ShrSlice (named 0) κ (F.ElemRow form)).own_val xs (shr_slice_vals xs)

    abbrev Own : form.Found.D → Val → Fml
    Own l u = (F.FoundRow form).own_val l (u ∷ [])

    told : (l : form.Found.D) → ent 𝓤 (ensured 𝓛 (F.ended form) (F.clauses form 𝓤) (κ, tt) args tt l) (fact 𝓤 (Found l))
    told l = ex_e 𝓤 _ (λ ws. snd∗ 𝓤 (sem 𝓛 (lasts (F.ended form) (κ, tt) args ws)) (fact 𝓤 (Found l)))

    module _ (n_fits : n < 2 ^ 8) (lm_fits : lm < 2 ^ 8) where
      asked : ent 𝓤 (sep 𝓤 (A.lft κ q) (sem 𝓛 Arcs)) (ListC.pre to)
      asked =
          qed 𝓛 (‵ (flft κ q) ∷ ‵ Arcs ∷ []) ∵ nothing ! $ move ! (1 ∷ 0 ∷ []) $ join ! $ nothing ! $ move ! (2 ∷ 0 ∷ []) $ fjoin ! $
          owned ! u8 (Is u8) (uint_Makes 𝓛 w8) lm _ (refl, lm_fits) $ fjoin ! $ owned ! u8 (Is u8) (uint_Makes 𝓛 w8) n _
          (refl, n_fits) $ fjoin ! $
          nothing ! $ move ! (2 ∷ 1 ∷ []) $ join ! $ frame ! $ done !

      module _ (𝓣 : Tables 𝓤 H) (known-list : Triple 𝓤 (𝓣.C me) ListC) (ls : List Local) where
        abbrev E : Blocks (arc_locals ls) → Env 𝓤 H
        E bs = Locals 𝓤 H ls bs

        -- `list` is called, and what it found is at hand
        lists : (bs : Blocks (arc_locals ls)) (hs : List (Option Val)) (d : ℕ) (rest : Body) (p : Post 𝓤 H) (Γ : List (Item 𝓤))
            → ((l : form.Found.D) (u : Val) → Found l → Is (F.FoundRow form) l (u ∷ [])
            → Sq 𝓛 (Cells 𝓤 H ls bs n lm xs hs ++ (‵ (Own l u) ∷ ‵ (flft κ q) ∷ Γ)) (lands 𝓣.C 𝓣.Λ (E bs) (place d []) u rest p))
            → Sq 𝓛 (Cells 𝓤 H ls bs n lm xs hs ++ (‵ (flft κ q) ∷ ‵ Arcs ∷ Γ)) (runs 𝓣.C 𝓣.Λ (E bs) (arc_body d rest) p)
        lists bs hs d rest p Γ k =
            let Δ : List (Item 𝓤) = Cells 𝓤 H ls bs n lm xs hs in
            past 𝓛 Δ (‵ (flft κ q) ∷ ‵ Arcs ∷ []) Γ (use2 𝓛 (raw (ListC.pre to)) asked $
            calls_at ! (fm_of 𝓤 H 𝓛.laws 𝓣) ListC known-list to
            (reads 𝓛 (E bs) (none ∷ Held n lm xs hs) (1 ∷ 2 ∷ 3 ∷ []) _ _ Γ (refl, (refl, (refl, tt)))) (λ u.
            use1 𝓛 (later (some (λ (l : form.Found.D). ((‵ (flft κ q) ⊛ ‵ ftrue) ⊛ ‵ (Own l u)) ⊛ raw
            (ensured 𝓛 (F.ended form) (F.clauses form 𝓤) (κ, tt) args tt l)))) (id⊢ 𝓤 _) $ await ! tt $ pick ! (λ l.
            split ! $ move ! (1 ∷ []) $ use1 𝓛 (raw (fact 𝓤 (Found l))) (told l) $ heard ! (Found l)
            (λ is. split ! $ split ! $ move ! (1 ∷ []) $ drop ! $ move ! (1 ∷ 0 ∷ []) $
            peeks ! (F.FoundRow form) (Is (F.FoundRow form)) (shows 𝓛 (F.FoundRow form)) l (u ∷ [])
            (λ o. past 𝓛 (‵ (Own l u) ∷ ‵ (flft κ q) ∷ []) Δ Γ (k l u is o))))))

        -- g is handed what was found and vs, with the tokens R, and what vs own, P. It returns what says D, and the call what says D'.
        module _ (g : Callee) (vs : List Val) (R : SProp 𝓤) (P : Fml) (D : form.Found.D → ℕ → SProp 𝓤) (D' : ℕ → SProp 𝓤) where
          abbrev Asks : form.Found.D → Val → SProp 𝓤
          Asks l u = sep 𝓤 (sep 𝓤 R (sem 𝓛 (fsep (Own l u) P))) (fact 𝓤 (Ready l))

          abbrev Gives : form.Found.D → Val → SProp 𝓤
          Gives l v = H.⇛ (ex 𝓤 (λ (r : ℕ). sep 𝓤 (sep 𝓤 R (sem 𝓛 (u32.own_val r (v ∷ [])))) (D l r)))

          abbrev Back : Val → ℕ → SProp 𝓤
          Back v r = sep 𝓤 (sep 𝓤 (sep 𝓤 (A.lft κ q) R) (sem 𝓛 (u32.own_val r (v ∷ [])))) (D' r)

          abbrev Returns : Val → SProp 𝓤
          Returns v = H.⇛ (ex 𝓤 (Back v))

          module _ (met : (l : form.Found.D) (u : Val) → ent 𝓤 (Asks l u) (𝓣.C g (u ∷ vs) (Gives l)))
              (so : (l : form.Found.D) → Found l → (r : ℕ) → ent 𝓤 (D l r) (D' r)) where
            exits : (l : form.Found.D) → Found l → (r : ℕ) (v : Val)
                → Sq 𝓛 (‵ (u32.own_val r (v ∷ [])) ∷ raw R ∷ raw (D l r) ∷ ‵ (flft κ q) ∷ []) (prop (Returns v))
            exits l is r v =
                updating ! $ at_once ! $ show ! (Back v) r $ move ! (3 ∷ 1 ∷ []) $ join ! $ join ! $ frame ! $ use1 𝓛 (raw (D' r))
                (so l is r) $ done !

            -- g is called, and the call ends
            hands : (bs : Blocks (arc_locals ls)) (hs : List (Option Val)) (js : List ℕ) (l : form.Found.D) (u : Val) → Found l
                → AllHolding 𝓤 H (E bs) (none ∷ Held n lm xs hs) js (u ∷ vs)
                → Sq 𝓛 (Cells 𝓤 H ls bs n lm xs hs ++ (‵ (Own l u) ∷ ‵ (flft κ q) ∷ ‵ P ∷ raw R ∷ []))
                (runs 𝓣.C 𝓣.Λ (E bs) (hands_to g js) (at_ret (E bs) Returns))
            hands bs hs js l u is at =
                let Δ : List (Item 𝓤) = Cells 𝓤 H ls bs n lm xs hs in
                let asks : Item 𝓤 = (raw R ⊛ ‵ (fsep (Own l u) P)) ⊛ raw (fact 𝓤 (Ready l)) in
                let own : ℕ → Val → Item 𝓤 = λ r v. ‵ (u32.own_val r (v ∷ [])) in
                past 𝓛 Δ (‵ (Own l u) ∷ ‵ (flft κ q) ∷ ‵ P ∷ raw R ∷ []) [] (
                move ! (0 ∷ 2 ∷ []) $ fjoin ! $ move ! (2 ∷ 0 ∷ []) $ join ! $ use0 𝓛 (raw (fact 𝓤 (Ready l)))
                (fact_i 𝓤 (Ready l) (emp 𝓤) (ready n lm xs.now l is)) $ move ! (1 ∷ 0 ∷ []) $ join ! $
                -- [what g asks; the arcs' token; the locals]
                move ! (1 ∷ 0 ∷ []) $ past 𝓛 (‵ (flft κ q) ∷ []) (asks ∷ Δ) [] (
                calls_from ! (fm_of 𝓤 H 𝓛.laws 𝓣) asks (u ∷ vs) (Gives l) (met l u)
                (reads 𝓛 (E bs) (none ∷ Held n lm xs hs) js (u ∷ vs) asks (‵ (flft κ q) ∷ []) at) (λ v.
                use1 𝓛 (later (some (λ (r : ℕ). (raw R ⊛ own r v) ⊛ raw (D l r)))) (id⊢ 𝓤 _) $ await ! tt $ pick !
                (λ r. split ! $ split ! $ move ! (1 ∷ 0 ∷ []) $
                peeks ! u32 (Is u32) (shows 𝓛 u32) r (v ∷ []) (λ o. past 𝓛 (own r v ∷ raw R ∷ raw (D l r) ∷ []) Δ (‵ (flft κ q) ∷ []) (
                ends 𝓛 𝓣.C 𝓣.Λ (ty_int w32) bs.0 _ (Held n lm xs hs) v Returns ((uint_Lawful 𝓛 w32).typed r _ o).0
                (own r v ∷ raw R ∷ raw (D l r) ∷ ‵ (flft κ q) ∷ []) (exits l is r v)))))))

            -- the whole call, whose code is that of f
            pub walk : Room (F.ElemRow form) (length xs.now) → Typed ls vs → (f : Fn) (d : ℕ) (rest : Body)
                → ◌≡◌ {A = List Local × Body} (f.locals, f.body) (arc_locals ls, arc_body d rest)
                → (js : List ℕ) (ts : List Val) → GoesOn 𝓛 ls js n lm xs vs ts 𝓣.C 𝓣.Λ d rest g → Passes 𝓛 ls js n lm xs vs ts
                → ent 𝓤 (sep 𝓤 (sep 𝓤 (A.lft κ q) R)
                (sem 𝓛 (fsep (u8.own_val n (vint w8 n ∷ [])) (fsep (u8.own_val lm (vint w8 lm ∷ [])) (fsep Arcs P)))))
                (WpFn 𝓤 H 𝓣.C 𝓣.Λ f (vint w8 n ∷ vint w8 lm ∷ slice_val xs.ref_ptr (length xs.now) ∷ vs) Returns)
            walk room fits f d rest is-arc js ts goes_on passes =
                let all : List Val = vint w8 n ∷ vint w8 lm ∷ slice_val xs.ref_ptr (length xs.now) ∷ vs in
                let Γ : List (Item 𝓤) = ‵ (flft κ q) ∷ ‵ Arcs ∷ ‵ P ∷ raw R ∷ [] in
                qed 𝓛 ((‵ (flft κ q) ⊛ raw R) ∷ ‵
                (fsep (u8.own_val n (vint w8 n ∷ [])) (fsep (u8.own_val lm (vint w8 lm ∷ [])) (fsep Arcs P))) ∷ []) ∵
                move ! (1 ∷ []) $ fsplit ! $ drop ! $ fsplit ! $ drop ! $ fsplit ! $ move ! (2 ∷ []) $ split ! $ move !
                (0 ∷ 2 ∷ 3 ∷ []) $ enter ! 𝓣.C 𝓣.Λ f all Returns $
                subst (λ (p : List Local × Body). Sq 𝓛 Γ
                (allocs p.0 (λ E. params' E all (runs 𝓣.C 𝓣.Λ E p.1 (at_ret E Returns))))) (sym is-arc)
                (begins 𝓛 (arc_locals ls) all (
                  (tt, record { fits = n_fits }),
                  ((tt, record { fits = lm_fits }), ((tt, (tt, (record { fits = room.0 }, tt))), fits)),
                ) Γ
                (λ E. runs 𝓣.C 𝓣.Λ E (arc_body d rest) (at_ret E Returns)) (λ bs.
                lists bs (map held vs) d rest (at_ret (E bs) Returns) (‵ P ∷ raw R ∷ []) (λ l u is o.
                goes_on Returns bs u ((LL.lawful form.Found form.found_laws 𝓛).typed l (u ∷ []) o).0
                (‵ (Own l u) ∷ ‵ (flft κ q) ∷ ‵ P ∷ raw R ∷ [])
                (hands bs (map held vs ++ (held u ∷ map held ts)) js l u is (passes bs u)))))
