-- The four calls that the code makes: the contracts that the walk cites, and what each call asks and says.
use mathlib.Core.List.{List, [], ◌∷◌}
use Prim.Native.Nat.{ℕ}
use lib.Dec.{T as Tr}
use lib.ListN.{length}
use seplogic.Ra.Ura.{Ura}
use base.Fraction.{full_share}
use mir.Syntax.{named, w8, w64}
use mir.Val.{Val, vint, vptr, has_ty, WT}
use base.Logic.{ent, sep, ex_e, snd∗}
use base.Fml.{GName, ftrue, flft}
use prog.Wp.{Tables}
use types.Logic.{Logic, sem}
use contract.Monad.{fact}
use types.Kit.{Item, ‵, raw, ◌⊛◌, some, later, ◌$◌, ◌∵◌, !, qed, join, frame, done}
use denote.RattleType.{owns}
use denote.Laws.{Is}
use denote.Plain.{uint_Lawful}
use denote.Builtin.{u8, u32, usize}
use denote.Array.{Array-Lawful}
use denote.Ref.{MutBor, MutRef}
use denote.Struct.Laws as LL
use denote.Triple.Statement.{Contract, Triple}
use denote.Triple.Entry.{Vals}
use denote.Triple.Spec.{triple_of}
use denote.Triple.Walked.{says}
use denote.Triple.Clauses.{Lasts, ensured, lasts, closing}
use Rattle.walk.proofs.Form.{Form, ElemRow, FoundRow, MadeRow, sizes_ended, begin_ended, add_ended, finish_ended, before_clauses}
use Rattle.walk.proofs.Form.{begin_clauses, add_clauses, finish_clauses}
use Rattle.walk.proofs.FormCode.{made_m}
use Rattle.walk.proofs.Stack.{Input}

module _ (form : Form) {M : Type 1} {𝓤 : Ura M} (𝓛 : Logic 𝓤) where
  open 𝓛 use {H}

  abbrev pub Before : Contract 𝓤
  Before = triple_of 𝓛 (sizes_ended form).signature (closing 𝓛 (sizes_ended form) (before_clauses form 𝓤))

  abbrev pub Begin : Contract 𝓤
  Begin = triple_of 𝓛 (begin_ended form).signature (closing 𝓛 (begin_ended form) (begin_clauses form 𝓤))

  abbrev pub Add : Contract 𝓤
  Add = triple_of 𝓛 (add_ended form).signature (closing 𝓛 (add_ended form) (add_clauses form 𝓤))

  abbrev pub Finish : Contract 𝓤
  Finish = triple_of 𝓛 (finish_ended form).signature (closing 𝓛 (finish_ended form) (finish_clauses form 𝓤))

  -- the four that are called meet them
  pub record Known (𝓣 : Tables 𝓤 H) : Type 1 where
    pub before : Triple 𝓤 (𝓣.C form.before) Before
    pub begin : Triple 𝓤 (𝓣.C form.begin) Begin
    pub add : Triple 𝓤 (𝓣.C form.add) Add
    pub finish : Triple 𝓤 (𝓣.C form.finish) Finish

module _ {form : Form} {M : Type 1} {𝓤 : Ura M} (𝓛 : Logic 𝓤) (input : Input form) where
  open 𝓛 use {A}
  open input use {n, lm, ys}

  -- `before` and `begin`
  abbrev sizes : ℕ × (ℕ × (ℕ × Unit {0}))
  sizes = (n, (lm, (length ys, tt)))

  abbrev sizes_passed : Vals (sizes_ended form).signature tt
  sizes_passed = (vint w8 n ∷ [], (vint w8 lm ∷ [], (vint w64 (length ys) ∷ [], tt)))

  abbrev pub to_before : (Before form 𝓛).Ghost
  to_before = ((tt, tt, tt, sizes, sizes_passed), tt)

  pub asked_before : ent 𝓤 (sep 𝓤 (sem 𝓛 ftrue) (sem 𝓛 (owns (u8 ∷ u8 ∷ usize ∷ []) sizes sizes_passed)))
      ((Before form 𝓛).pre to_before)
  asked_before = qed 𝓛 (‵ ftrue ∷ ‵ (owns (u8 ∷ u8 ∷ usize ∷ []) sizes sizes_passed) ∷ []) ∵ join ! $ frame ! $ done !

  pub said_before : (r : ℕ) → ent 𝓤 (ensured 𝓛 (sizes_ended form) (before_clauses form 𝓤) tt sizes tt r)
      (fact 𝓤 (form.Early n lm (length ys) r))
  said_before r = ex_e 𝓤 _ (λ ws. snd∗ 𝓤 (sem 𝓛 (lasts (sizes_ended form) tt sizes ws)) (fact 𝓤 (form.Early n lm (length ys) r)))

  abbrev pub before_gives : Val → Item 𝓤
  before_gives u = later (some (λ (r : ℕ). (‵ ftrue ⊛ ‵ (u32.own_val r (u ∷ []))) ⊛ raw
      (ensured 𝓛 (sizes_ended form) (before_clauses form 𝓤) tt sizes tt r)))

  abbrev pub to_begin : (Begin form 𝓛).Ghost
  to_begin = ((tt, tt, tt, sizes, sizes_passed), tt)

  pub asked_begin : ent 𝓤 (sep 𝓤 (sem 𝓛 ftrue) (sem 𝓛 (owns (u8 ∷ u8 ∷ usize ∷ []) sizes sizes_passed)))
      ((Begin form 𝓛).pre to_begin)
  asked_begin = qed 𝓛 (‵ ftrue ∷ ‵ (owns (u8 ∷ u8 ∷ usize ∷ []) sizes sizes_passed) ∷ []) ∵ join ! $ frame ! $ done !

  pub said_begin : (h : List ℕ) → ent 𝓤 (ensured 𝓛 (begin_ended form) (begin_clauses form 𝓤) tt sizes tt h)
      (fact 𝓤 (form.Begun n lm (length ys) h))
  said_begin h = ex_e 𝓤 _ (λ ws. snd∗ 𝓤 (sem 𝓛 (lasts (begin_ended form) tt sizes ws)) (fact 𝓤 (form.Begun n lm (length ys) h)))

  abbrev pub begin_gives : Val → Item 𝓤
  begin_gives w = later (some (λ (h : List ℕ). (‵ ftrue ⊛ ‵ ((MadeRow form).own_val h (w ∷ []))) ⊛ raw
      (ensured 𝓛 (begin_ended form) (begin_clauses form 𝓤) tt sizes tt h)))

  -- what is made has its type
  pub made_typed : (h : List ℕ) (w : Val) → Is (MadeRow form) h (w ∷ []) → Tr (has_ty (made_m form) w) × WT w
  made_typed h w is = ((Array-Lawful 𝓛 u8 (uint_Lawful 𝓛 w8) form.bytes).typed h (w ∷ []) is).0

  -- `add`: what is made, g, a local at l, is lent for the lifetime α under the name δ; f is refused so far, at the machine value u;
  -- struct a is the i-th
  module _ (α : ℕ) (δ : GName) (l f : ℕ) (u : Val) (g : List ℕ) (i : ℕ) (a : form.shape.Elem.D) where
    abbrev handed : MutBor (List ℕ) × (ℕ × (ℕ × (ℕ × (ℕ × (form.shape.Elem.D × Unit {0})))))
    handed = (record { ref_ptr = (l, 0); ghost_name = δ; now = g }, (f, (n, (lm, (i, (a, tt))))))

    abbrev passed : Vals (add_ended form).signature (α ∷ [], tt)
    passed = (
      vptr l 0 ∷ [],
      (
        u ∷ [],
        (vint w8 n ∷ [], (vint w8 lm ∷ [], (vint w64 i ∷ [], (LL.vals form.shape.Elem form.shape.elem_laws a, tt)))),
      ),
    )

    abbrev pub to_add : (Add form 𝓛).Ghost
    to_add = (((α ∷ [], tt), (full_share, tt), tt, handed, passed), tt)

    pub asked_add : form.Asks n lm f g i
        → ent 𝓤 (sep 𝓤 (sep 𝓤 (A.lft (α ∷ []) full_share) (sem 𝓛 ftrue))
        (sem 𝓛 (owns (MutRef (named 0) (α ∷ []) (MadeRow form) ∷ u32 ∷ u8 ∷ u8 ∷ usize ∷ ElemRow form.shape ∷ []) handed passed)))
        ((Add form 𝓛).pre to_add)
    asked_add ok = qed 𝓛 ((‵ (flft (α ∷ []) full_share) ⊛ ‵ ftrue) ∷ ‵
        (owns (MutRef (named 0) (α ∷ []) (MadeRow form) ∷ u32 ∷ u8 ∷ u8 ∷ usize ∷ ElemRow form.shape ∷ []) handed passed) ∷ []) ∵
        says ! ok $ done !

    abbrev pub add_gives : Val → Item 𝓤
    add_gives v = later (some
        (λ (r : ℕ). ((‵ (flft (α ∷ []) full_share) ⊛ ‵ ftrue) ⊛ ‵ (u32.own_val r (v ∷ []))) ⊛ raw
        (ensured 𝓛 (add_ended form) (add_clauses form 𝓤) (α ∷ [], tt) handed tt r)))

    abbrev pub add_ensures : ℕ → Item 𝓤
    add_ensures r = some (λ (ws : Lasts (add_ended form) (α ∷ [], tt) handed). ‵ (lasts (add_ended form) (α ∷ [], tt) handed ws) ⊛ raw
        (fact 𝓤 (form.Added n lm f g i a r ws.0)))

  -- `finish`: f is at the machine value u, and g at w
  module _ (f : ℕ) (u : Val) (g : List ℕ) (w : Val) where
    abbrev both : ℕ × (List ℕ × Unit {0})
    both = (f, (g, tt))

    abbrev both_passed : Vals (finish_ended form).signature tt
    both_passed = (u ∷ [], (w ∷ [], tt))

    abbrev pub to_finish : (Finish form 𝓛).Ghost
    to_finish = ((tt, tt, tt, both, both_passed), tt)

    pub asked_finish : ent 𝓤 (sep 𝓤 (sem 𝓛 ftrue) (sem 𝓛 (owns (u32 ∷ MadeRow form ∷ []) both both_passed)))
        ((Finish form 𝓛).pre to_finish)
    asked_finish = qed 𝓛 (‵ ftrue ∷ ‵ (owns (u32 ∷ MadeRow form ∷ []) both both_passed) ∷ []) ∵ join ! $ frame ! $ done !

    pub said_finish : (r : form.shape.Found.D) → ent 𝓤 (ensured 𝓛 (finish_ended form) (finish_clauses form 𝓤) tt both tt r)
        (fact 𝓤 (form.Finished f g r))
    said_finish r = ex_e 𝓤 _ (λ ws. snd∗ 𝓤 (sem 𝓛 (lasts (finish_ended form) tt both ws)) (fact 𝓤 (form.Finished f g r)))

    abbrev pub finish_gives : Val → Item 𝓤
    finish_gives v = later (some
        (λ (r : form.shape.Found.D). (‵ ftrue ⊛ ‵ ((FoundRow form.shape).own_val r (v ∷ []))) ⊛ raw
        (ensured 𝓛 (finish_ended form) (finish_clauses form 𝓤) tt both tt r)))
