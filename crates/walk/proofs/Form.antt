-- The form of a function that walks a lent slice of structs:
--     let mut f = before(n, lmax, all.len());
--     let mut made = begin(n, lmax, all.len());
--     let mut k: usize = 0;
--     while f == 0 { if all.len() <= k { break; } let a = all[k]; f = add(&mut made, f, n, lmax, k, a); k += 1; }
--     finish(f, made)
-- What there is in it, its own contract, and those of the four that it calls, over what each says.
use Prim.Native.Nat.{ℕ, ◌+◌, ◌<◌}
use mathlib.Core.Path.{◌≡◌}
use mathlib.Core.List.{List, [], ◌∷◌}
use lib.ListN.{length, get_or}
use seplogic.Ra.Ura.{Ura}
use mir.Syntax.{Ty, Callee}
use base.Logic.{emp}
use contract.Monad.{fact}
use denote.RattleType.{RattleType}
use denote.Builtin.{u8, u32, usize, Array, ArrayOf, RefMutOf, SliceRefOf}
use denote.Signature.{plain}
use denote.Exit.{yes as held}
use denote.Struct.Declared.{Declared, row, fields}
use denote.Struct.Declared.{shape as shape_of}
use denote.Struct.Struct.{layout, Plains}
use denote.Struct.Laws.{Laws, Copyables}
use denote.Triple.Clauses.{Ended, Clauses}

-- what a caller sees of the function
pub record Shape : Type 2 where
  -- the struct that the slice holds, and one of it
  pub Elem : Declared
  pub elem_laws : Laws Elem
  pub elem_copy : Copyables Elem.parts
  pub elem_plain : Plains (fields Elem)
  pub no_elem : Elem.D
  -- the struct that is returned
  pub Found : Declared
  pub found_laws : Laws Found
  -- what the function says of n, LMAX, the structs and its result
  pub Says : ℕ → ℕ → List Elem.D → Found.D → Type 0

-- and what there is in it
pub record Form : Type 2 where
  pub shape : Shape
  -- the bytes that are made on the way
  pub bytes : ℕ
  -- the functions that are called
  pub before : Callee
  pub begin : Callee
  pub add : Callee
  pub finish : Callee
  -- what `before` says of n, LMAX and the length, and its result
  pub Early : ℕ → ℕ → ℕ → ℕ → Type 0
  -- what `begin` says
  pub Begun : ℕ → ℕ → ℕ → List ℕ → Type 0
  -- what `add` asks of n, LMAX, f, what is made and k; and says of these, the struct, its result and what is made then
  pub Asks : ℕ → ℕ → ℕ → List ℕ → ℕ → Type 0
  pub Added : ℕ → ℕ → ℕ → List ℕ → ℕ → shape.Elem.D → ℕ → List ℕ → Type 0
  -- what `finish` says of f, what is made, and its result
  pub Finished : ℕ → List ℕ → shape.Found.D → Type 0

-- why it says so: what holds when k structs are behind
pub record Behind (w : Form) : Type 1 where
  pub Behind : ℕ → ℕ → List w.shape.Elem.D → ℕ → ℕ → List ℕ → Type 0
  pub none_behind : (n lm : ℕ) (ys : List w.shape.Elem.D) (f : ℕ) (g : List ℕ) → w.Early n lm (length ys) f
      → w.Begun n lm (length ys) g → Behind n lm ys 0 f g
  pub asks : (n lm : ℕ) (ys : List w.shape.Elem.D) (k f : ℕ) (g : List ℕ) → k < length ys → Behind n lm ys k f g → w.Asks n lm f g k
  pub one_behind : (n lm : ℕ) (ys : List w.shape.Elem.D) (k f r : ℕ) (g h : List ℕ) → k < length ys → Behind n lm ys k f g
      → w.Added n lm f g k (get_or ys k w.shape.no_elem) r h → Behind n lm ys (k + 1) r h
  pub refused_behind : (n lm : ℕ) (ys : List w.shape.Elem.D) (k f : ℕ) (g : List ℕ) → Behind n lm ys k f g → (f ≡ 0 → ⊥)
      → Behind n lm ys (length ys) f g
  pub all_behind : (n lm : ℕ) (ys : List w.shape.Elem.D) (f : ℕ) (g : List ℕ) (r : w.shape.Found.D)
      → Behind n lm ys (length ys) f g → w.Finished f g r → w.shape.Says n lm ys r

-- ---- its types and its own contract, as a caller has them

module _ (h : Shape) where
  abbrev pub ElemRow : RattleType
  ElemRow = row h.Elem

  abbrev pub FoundRow : RattleType
  FoundRow = row h.Found

  abbrev pub elem_m : Ty
  elem_m = layout (shape_of h.Elem)

  abbrev pub found_m : Ty
  found_m = layout (shape_of h.Found)

  abbrev pub ended : Ended
  ended = record {
    signature = record {
      lifetimes = 1;
      outlives = [];
      params = plain (λ κs. u8) ∷ plain (λ κs. u8) ∷ SliceRefOf (0 ∷ []) tt (plain (λ κs. ElemRow)) (λ κs. tt) ∷ [];
      result = plain (λ κs. FoundRow);
    };
    kept = (held, (held, (held, tt)));
  }

  module _ {M : Type 1} (𝓤 : Ura M) where
    abbrev pub clauses : Clauses 𝓤 ended
    clauses κs a = record {
      ghost = Unit {0};
      requires = λ g. emp 𝓤;
      ensures = λ g r e. fact 𝓤 (h.Says a.0 a.1.0 a.1.1.0.now r);
    }

-- ---- the contracts of the four that it calls

module _ (w : Form) where
  abbrev pub MadeRow : RattleType
  MadeRow = Array u8 tt w.bytes

  abbrev pub sizes_ended : Ended
  sizes_ended = record {
    signature = record {
      lifetimes = 0;
      outlives = [];
      params = plain (λ κs. u8) ∷ plain (λ κs. u8) ∷ plain (λ κs. usize) ∷ [];
      result = plain (λ κs. u32);
    };
    kept = (held, (held, (held, tt)));
  }

  abbrev pub begin_ended : Ended
  begin_ended = record {
    signature = record {
      lifetimes = 0;
      outlives = [];
      params = plain (λ κs. u8) ∷ plain (λ κs. u8) ∷ plain (λ κs. usize) ∷ [];
      result = ArrayOf (plain (λ κs. u8)) (λ κs. tt) w.bytes;
    };
    kept = (held, (held, (held, tt)));
  }

  abbrev pub add_ended : Ended
  add_ended = record {
    signature = record {
      lifetimes = 1;
      outlives = [];
      params = RefMutOf (0 ∷ []) tt (ArrayOf (plain (λ κs. u8)) (λ κs. tt) w.bytes) (λ κs. tt) ∷ plain (λ κs. u32) ∷ plain
          (λ κs. u8) ∷ plain (λ κs. u8)
          ∷ plain (λ κs. usize) ∷ plain (λ κs. (ElemRow w.shape)) ∷ [];
      result = plain (λ κs. u32);
    };
    kept = (held, (held, (held, (held, (held, (held, tt))))));
  }

  abbrev pub finish_ended : Ended
  finish_ended = record {
    signature = record {
      lifetimes = 0;
      outlives = [];
      params = plain (λ κs. u32) ∷ ArrayOf (plain (λ κs. u8)) (λ κs. tt) w.bytes ∷ [];
      result = plain (λ κs. (FoundRow w.shape));
    };
    kept = (held, (held, tt));
  }

  module _ {M : Type 1} (𝓤 : Ura M) where
    abbrev pub before_clauses : Clauses 𝓤 sizes_ended
    before_clauses κs a = record {
      ghost = Unit {0};
      requires = λ g. emp 𝓤;
      ensures = λ g r e. fact 𝓤 (w.Early a.0 a.1.0 a.1.1.0 r);
    }

    abbrev pub begin_clauses : Clauses 𝓤 begin_ended
    begin_clauses κs a = record {
      ghost = Unit {0};
      requires = λ g. emp 𝓤;
      ensures = λ g r e. fact 𝓤 (w.Begun a.0 a.1.0 a.1.1.0 r);
    }

    abbrev pub add_clauses : Clauses 𝓤 add_ended
    add_clauses κs a = record {
      ghost = Unit {0};
      requires = λ g. fact 𝓤 (w.Asks a.1.1.0 a.1.1.1.0 a.1.0 a.0.now a.1.1.1.1.0);
      ensures = λ g r e. fact 𝓤
          (w.Added a.1.1.0 a.1.1.1.0 a.1.0 a.0.now a.1.1.1.1.0 a.1.1.1.1.1.0 r e.0.now);
    }

    abbrev pub finish_clauses : Clauses 𝓤 finish_ended
    finish_clauses κs a = record { ghost = Unit {0}; requires = λ g. emp 𝓤; ensures = λ g r e. fact 𝓤 (w.Finished a.0 a.1.0 r) }
