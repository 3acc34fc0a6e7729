-- The code of the form, as the machine has it, and the types of its locals.
use Prim.Native.Nat.{ℕ}
use mathlib.Core.List.{List, [], ◌∷◌, map}
use mir.Syntax.{Ty, named, erased, imm, mut, unsigned, w8, w32, w64, ty_int, ty_bool, ty_ptr, ty_ref, ty_array, Local, local, value_local}
use mir.Syntax.{memory_slot, Opd, copy, int, place, field, deref, rv_opd, op2, le, eq, mul, offset, addr_of, Body, seq, assign, call}
use mir.Syntax.{cond, skip, exit, block, loop, return, Fn}
use denote.Memory.{pointee, mem as lies}
use denote.Slice.{slice_ty}
use Rattle.walk.proofs.Form.{Form, ElemRow, elem_m, found_m}

-- ---- types

abbrev pub byte : Ty
byte = ty_int w8

abbrev pub number_m : Ty
number_m = ty_int w32

abbrev pub word : Ty
word = ty_int w64

module _ (w : Form) where
  abbrev pub made_m : Ty
  made_m = ty_array byte w.bytes

  -- the pointer to what is made that `add` is lent
  abbrev pub lent_m : Ty
  lent_m = ty_ref erased mut made_m

  abbrev pub slice : Ty
  slice = slice_ty (ty_ref (named 0) imm (pointee (ElemRow w.shape).written))

  abbrev pub size : ℕ
  size = (lies (ElemRow w.shape)).size

  -- ---- code

  abbrev at : ℕ → Opd
  at k = copy (place k [])

  abbrev pub turn : Body
  turn =
      seq (assign (place 10 []) (op2 eq (at 4) (int w32 0)))
      (seq (cond (at 10) skip (exit 1))
      (seq (assign (place 11 []) (rv_opd (copy (place 3 (field 1 ∷ [])))))
      (seq (assign (place 10 []) (op2 (le unsigned) (at 11) (at 6)))
      (seq (cond (at 10) (exit 1) skip)
      (seq (assign (place 11 []) (op2 (mul unsigned) (at 6) (int w64 size)))
      (seq (assign (place 12 []) (op2 offset (copy (place 3 (field 0 ∷ []))) (at 11)))
      (seq (assign (place 13 []) (rv_opd (copy (place 12 (deref (elem_m w.shape) ∷ [])))))
      (seq (assign (place 7 []) (rv_opd (at 13)))
      (seq (assign (place 14 []) (addr_of (place 5 [])))
      (seq (call w.add (map at (14 ∷ 4 ∷ 1 ∷ 2 ∷ 6 ∷ 7 ∷ [])) (place 4 []))
      (assign (place 6 []) (op2 (mir.Syntax.add unsigned) (at 6) (int w64 1)))))))))))))

  abbrev pub ending : Body
  ending = seq (assign (place 9 []) (rv_opd (at 5))) (seq (call w.finish (map at (4 ∷ 9 ∷ [])) (place 0 [])) return)

  abbrev pub beginning : Body
  beginning =
      seq (assign (place 8 []) (rv_opd (copy (place 3 (field 1 ∷ [])))))
      (seq (call w.begin (map at (1 ∷ 2 ∷ 8 ∷ [])) (place 9 []))
      (seq (assign (place 5 []) (rv_opd (at 9)))
      (seq (assign (place 6 []) (rv_opd (int w64 0)))
      (seq (block (loop turn)) ending))))

  abbrev pub body : Body
  body = seq (assign (place 8 []) (rv_opd (copy (place 3 (field 1 ∷ [])))))
      (seq (call w.before (map at (1 ∷ 2 ∷ 8 ∷ [])) (place 4 [])) beginning)

  abbrev pub locals : List Local
  locals =
      local (found_m w.shape) value_local ∷ local byte value_local ∷ local byte value_local ∷ local slice value_local ∷ local number_m
      value_local ∷ local made_m memory_slot
      ∷ local word value_local ∷ local (elem_m w.shape) value_local ∷ local word value_local ∷ local made_m value_local ∷ local ty_bool
      value_local ∷ local word value_local
      ∷ local ty_ptr value_local ∷ local (elem_m w.shape) value_local ∷ local lent_m value_local ∷ []

  abbrev pub function : Fn
  function = record { lifetimes = 1; outlives = []; ty_params = []; givens = 0; params = 3; locals = locals; body = body }
