-- What the function is handed, and what lies where while its code runs: over the form alone.
use Prim.Native.Nat.{ℕ, ◌<◌, ◌^◌}
use mathlib.Core.List.{List, [], ◌∷◌}
use lib.ListN.{length}
use seplogic.Ra.Ura.{Ura}
use base.Fraction.{full_share}
use mir.Syntax.{Ty, named, w8, w64, ty_bool, ty_ptr}
use mir.Val.{Val, vint}
use base.Fml.{Lft, Share, ftrue, fat, froom, fdies, flft, fhide}
use types.Kit.{Item, ‵, ◌⊛◌}
use denote.RattleType.{owns}
use denote.Memory.{mem as lies}
use denote.Builtin.{u8, u32}
use denote.Ref.{Bor}
use denote.Slice.{slice_val, ShrSlice, shr_slice_at, elements_shared, Room}
use denote.Triple.Entry.{Vals}
use Rattle.walk.proofs.Form.{Form, ElemRow, elem_m, found_m, MadeRow, ended}
use Rattle.walk.proofs.FormCode.{byte, number_m, word, made_m, lent_m, slice}

-- what the function is handed: n, LMAX, and the slice of ys at o in the block b, which is lent for κ, whose token is held at the share q.
-- Each fits its type
pub record Input (form : Form) : Type 0 where
  pub n : ℕ
  pub lm : ℕ
  pub κ : Lft
  pub q : Share
  pub b : ℕ
  pub o : ℕ
  pub ys : List form.shape.Elem.D
  pub n_fits : n < 2 ^ 8
  pub lm_fits : lm < 2 ^ 8
  pub room : Room (ElemRow form.shape) (length ys)

-- the blocks of its locals, _0 to _14
abbrev pub Blocks : Type 0
Blocks = ℕ × ℕ × ℕ × ℕ × ℕ × ℕ × ℕ × ℕ × ℕ × ℕ × ℕ × ℕ × ℕ × ℕ × ℕ

-- with their types
abbrev pub En : Form → Blocks → List (Ty × ℕ)
En form bs =
    (found_m form.shape, bs.0) ∷ (byte, bs.1) ∷ (byte, bs.2) ∷ (slice form, bs.3) ∷ (number_m, bs.4) ∷ (made_m form, bs.5)
    ∷ (word, bs.6) ∷ (elem_m form.shape, bs.7) ∷ (word, bs.8) ∷ (made_m form, bs.9) ∷ (ty_bool, bs.10) ∷ (word, bs.11)
    ∷ (ty_ptr, bs.12) ∷ (elem_m form.shape, bs.13) ∷ (lent_m form, bs.14) ∷ []

module _ {form : Form} (input : Input form) where
  open input use {n, lm, κ, q, b, o, ys}

  abbrev pub xs : Bor (List form.shape.Elem.D)
  xs = record { ref_ptr = (b, o); now = ys }

  -- the arguments, and their machine values
  abbrev pub x : ℕ × (ℕ × (Bor (List form.shape.Elem.D) × Unit {0}))
  x = (n, (lm, (xs, tt)))

  abbrev pub at : Vals (ended form.shape).signature (κ, tt)
  at = (vint w8 n ∷ [], (vint w8 lm ∷ [], (slice_val (b, o) (length ys) ∷ [], tt)))

  module _ {M : Type 1} {𝓤 : Ura M} where
    -- what the slice owns, apart: what a `&` to each of its structs holds, and the fact that says where it lies
    abbrev pub Elems : Item 𝓤
    Elems = ‵ (fhide (elements_shared (ElemRow form.shape) ys b o κ))

    abbrev pub Fact : Item 𝓤
    Fact = ‵ (shr_slice_at (ElemRow form.shape) xs at.1.1.0)

    -- the token, and what the parameters own
    abbrev pub Tokens : Item 𝓤
    Tokens = ‵ (flft κ q) ⊛ ‵ ftrue

    abbrev pub Params : Item 𝓤
    Params = ‵ (owns (u8 ∷ u8 ∷ ShrSlice (named 0) κ (ElemRow form.shape) ∷ []) x at)

    module _ (bs : Blocks) where
      -- what is made
      abbrev pub Made : List ℕ → Item 𝓤
      Made h = ‵ ((lies (MadeRow form)).own_at h bs.5 0)

      -- i structs are behind, f is refused so far, at the machine value u, and h is made in _5.
      -- [_4; what it owns; _6; _7; _11; _10; _12; _13; _3; _0; the token; the structs; the fact; _1; _2; _8; that each dies; _9; _14; _5]
      abbrev pub At : ℕ → ℕ → Val → List ℕ → List (Item 𝓤)
      At i f u h =
          ‵ (fat full_share number_m bs.4 0 u) ∷ ‵ (u32.own_val f (u ∷ [])) ∷ ‵ (fat full_share word bs.6 0 (vint w64 i))
          ∷ ‵ (froom (elem_m form.shape) bs.7 0) ∷ ‵ (froom word bs.11 0) ∷ ‵ (froom ty_bool bs.10 0) ∷ ‵ (froom ty_ptr bs.12 0)
          ∷ ‵ (froom (elem_m form.shape) bs.13 0) ∷ ‵ (fat full_share (slice form) bs.3 0 (slice_val (b, o) (length ys)))
          ∷ ‵ (froom (found_m form.shape) bs.0 0) ∷ ‵ (flft κ q) ∷ Elems ∷ Fact
          ∷ ‵ (fat full_share byte bs.1 0 (vint w8 n)) ∷ ‵ (fat full_share byte bs.2 0 (vint w8 lm)) ∷ ‵ (froom word bs.8 0)
          ∷ ‵ (fdies (found_m form.shape) bs.0) ∷ ‵ (fdies byte bs.1) ∷ ‵ (fdies byte bs.2) ∷ ‵ (fdies (slice form) bs.3)
          ∷ ‵ (fdies number_m bs.4) ∷ ‵ (fdies (made_m form) bs.5) ∷ ‵ (fdies word bs.6) ∷ ‵ (fdies (elem_m form.shape) bs.7)
          ∷ ‵ (fdies word bs.8) ∷ ‵ (fdies (made_m form) bs.9) ∷ ‵ (fdies ty_bool bs.10) ∷ ‵ (fdies word bs.11)
          ∷ ‵ (fdies ty_ptr bs.12) ∷ ‵ (fdies (elem_m form.shape) bs.13) ∷ ‵ (fdies (lent_m form) bs.14)
          ∷ ‵ (froom (made_m form) bs.9 0) ∷ ‵ (froom (lent_m form) bs.14 0) ∷ Made h ∷ []

      -- the parameters are in their locals; _8 and _4: [_14; …; _13; …; …; _0; …; the token; what the parameters own]
      abbrev pub Stack : Item 𝓤 → Item 𝓤 → List (Item 𝓤)
      Stack eight four =
          ‵ (froom (lent_m form) bs.14 0) ∷ ‵ (fdies (lent_m form) bs.14)
          ∷ ‵ (froom (elem_m form.shape) bs.13 0) ∷ ‵ (fdies (elem_m form.shape) bs.13)
          ∷ ‵ (froom ty_ptr bs.12 0) ∷ ‵ (fdies ty_ptr bs.12) ∷ ‵ (froom word bs.11 0) ∷ ‵ (fdies word bs.11)
          ∷ ‵ (froom ty_bool bs.10 0) ∷ ‵ (fdies ty_bool bs.10) ∷ ‵ (froom (made_m form) bs.9 0) ∷ ‵ (fdies (made_m form) bs.9)
          ∷ eight ∷ ‵ (fdies word bs.8) ∷ ‵ (froom (elem_m form.shape) bs.7 0) ∷ ‵ (fdies (elem_m form.shape) bs.7)
          ∷ ‵ (froom word bs.6 0) ∷ ‵ (fdies word bs.6) ∷ ‵ (froom (made_m form) bs.5 0) ∷ ‵ (fdies (made_m form) bs.5)
          ∷ four ∷ ‵ (fdies number_m bs.4)
          ∷ ‵ (fat full_share (slice form) bs.3 0 (slice_val (b, o) (length ys))) ∷ ‵ (fdies (slice form) bs.3)
          ∷ ‵ (fat full_share byte bs.2 0 (vint w8 lm)) ∷ ‵ (fdies byte bs.2)
          ∷ ‵ (fat full_share byte bs.1 0 (vint w8 n)) ∷ ‵ (fdies byte bs.1)
          ∷ ‵ (froom (found_m form.shape) bs.0 0) ∷ ‵ (fdies (found_m form.shape) bs.0) ∷ Tokens ∷ Params ∷ []

      -- `before` has returned f
      abbrev pub Early : ℕ → Val → List (Item 𝓤)
      Early f u = ‵ (u32.own_val f (u ∷ [])) ∷ Stack (‵ (fat full_share word bs.8 0 (vint w64 (length ys))))
          (‵ (fat full_share number_m bs.4 0 u))
