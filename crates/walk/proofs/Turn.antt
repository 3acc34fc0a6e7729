-- A turn of the loop: it takes one more struct, or leaves the loop where one is refused or at the end of the slice.
-- To take struct i it looks into the slice, copies the struct to a local, shuts the slice, and lends what is made to `add`.
use mathlib.Core.Path.{refl, sym}
use Prim.Native.Nat.{ℕ, suc, ◌+◌, ◌*◌, ◌≤◌, ◌<◌, ◌^◌}
use native.Mathlib.Omega.{arith}
use native.Mathlib.Nat.{mul-le-mul_right}
use mathlib.Core.Bool.{Bool, true, false}
use mathlib.Core.List.{List, [], ◌∷◌}
use lib.ListN.{length, get_or}
use lib.Dec.{lt→ltb}
use borrow.Author.Tests.{lt-leb, le-leb, ne_eqb}
use seplogic.Ra.Ura.{Ura}
use base.Fraction.{full_share}
use mir.Syntax as Bd
use mir.Syntax.{Opd as Operand, named, w8, w32, w64, ty_bool, ty_ptr}
use mir.Val.{Val, vbool, vint, vptr}
use base.Logic.{SProp, ent, id⊢}
use base.Fml.{GName, fat, flent}
use prog.Wp.{Out, exits as exitsᴼ, Env, after_turn, Calls, Loops, Wp, Tables}
use types.Logic.{Logic}
use sound.WpLaws.{fm_of}
use types.Kit.{runs, Item, ‵, raw, ◌⊛◌, some, later, ⋆, any_q, Post as After, post, prop, Step, step, ◌$◌, ◌∵◌, !, qed, by, move}
use types.Kit.{keep, drop, use1, use2, use3, split, join, pick, rewrite, fsplit, fjoin, await}
use types.Part.{whole, sub, look_in}
use types.Run.{Opd, look, look_raw, store, init, forget, stop, hop, fld, from, load, addr, lit, of_opd, bin, and_then, no_more, assigns}
use types.Run.{assigns_last, first, branches, skips, jumps, stays, leaves_loop, land, exec}
use types.SemTy.{Body}
use types.Tokens.{lft_new, lft_end}
use denote.RattleType.{RattleType}
use denote.Memory.{mem as lies}
use denote.Laws.{Is, shows}
use denote.Plain.{uint_Makes, uint_Lawful}
use denote.Builtin.{u8, u32, usize}
use denote.Ref.{MutRef}
use denote.Index.{place_is, elem_out, elem_back, looks_slice, shuts_slice}
use denote.Lend.{lends_ref, ref_back}
use denote.Steps.{owned, peeks, heard, nothing}
use denote.Struct.Laws as LL
use denote.Triple.Call.{calls_at}
use Rattle.walk.proofs.Form.{Form, Behind, ElemRow, MadeRow}
use Rattle.walk.proofs.FormCode.{size, turn}
use Rattle.walk.proofs.Stack.{Input, Blocks, En, Made, At}
use Rattle.walk.proofs.Calls.{Known, Add, to_add, asked_add, add_gives, add_ensures}
use Rattle.walk.proofs.Ending.{Left, finishes}

-- `if c { break; }`: the test fails and the turn goes on, or it holds and the loop is left
module _ {M : Type 1} {𝓤 : Ura M} {𝓛 : Logic 𝓤} {K : Type 0} {Γ : List (Item 𝓤)} {E : Env 𝓤 𝓛.H}
    {C : Calls 𝓤 𝓛.H} {Λ : Loops 𝓤 𝓛.H} {q : After 𝓤 𝓛.H} where
  open 𝓛 use {H}

  goes_on : K → {c : Operand} {n : ℕ} {b : Bd.Body} → Opd K 𝓛 Γ E c (vbool false)
      → Step K 𝓛 Γ (runs C Λ E b q) Γ (runs C Λ E (Bd.seq (Bd.cond c (Bd.exit n) Bd.skip) b) q)
  goes_on t o = step (λ s. first t $ branches t o (λ z. absurd z) (λ _. skips t $ record { prf = s.prf }))

  breaks_loop : K → {c : Operand} {n : ℕ} {b : Bd.Body} → Opd K 𝓛 Γ E c (vbool true)
      → Step K 𝓛 Γ (prop (post 𝓤 H q (exitsᴼ n))) Γ (runs C Λ E (Bd.seq (Bd.cond c (Bd.exit n) Bd.skip) b) q)
  breaks_loop t o = step (λ s. first t $ branches t o (λ _. jumps t $ record { prf = s.prf }) (λ z. absurd z))

module _ {form : Form} {M : Type 1} {𝓤 : Ura M} (𝓛 : Logic 𝓤) (input : Input form) (𝓣 : Tables 𝓤 𝓛.H)
    (known : Known form 𝓛 𝓣) (bs : Blocks) where
  open 𝓛 use {H}
  open input use {n, lm, b, o, ys, n_fits, lm_fits, room}
  open form.shape use {Elem, elem_laws, elem_copy, elem_plain, no_elem}

  abbrev Row : RattleType
  Row = ElemRow form.shape

  -- what a turn ends with: X where the loop goes on, and else what is left to run
  abbrev Turned : SProp 𝓤 → Out → SProp 𝓤
  Turned X = after_turn 𝓤 H X (Left 𝓛 input 𝓣 bs)

  -- a turn runs
  abbrev pub Turns : SProp 𝓤 → SProp 𝓤
  Turns X = Wp 𝓤 H 𝓣.C 𝓣.Λ (En form bs) (turn form) (Turned X)

  -- a turn that takes one more
  pub more : (i : ℕ) (h : List ℕ) (X : SProp 𝓤) → i < length ys → form.Asks n lm 0 h i
      → ((r : ℕ) (v : Val) (h' : List ℕ) → form.Added n lm 0 h i (get_or ys i no_elem) r h' → ent 𝓤 (⋆ 𝓛 (At input bs (i + 1) r v h')) X)
      → ent 𝓤 (⋆ 𝓛 (At input bs i 0 (vint w32 0) h)) (Turns X)
  unfolding after_turn
  more i h X small ok k =
      let f : ℕ = 0 in
      let u : Val = vint w32 0 in
      let all_rows : length ys * size form < 2 ^ 63 = room.1 in
      let whole_row : i * size form ≤ length ys * size form = mul-le-mul_right (size form) (omega arith) in
      let one_row : 1 * size form ≤ length ys * size form = mul-le-mul_right (size form) (omega arith) in
      let size_fits : size form < 2 ^ 64 = omega arith in
      let i_fits : i < 2 ^ 64 = omega arith in
      let scaled : i * size form < 2 ^ 64 = omega arith in
      let next : i + 1 < 2 ^ 64 = omega arith in
      qed 𝓛 (At input bs i f u h) ∵ exec ! 𝓣.C 𝓣.Λ (En form bs) (turn form) (any_q (Turned X)) $
      assigns ! (bin ! (load ! (from ! (stop !)) (look ! 0 refl)) (lit ! tt) tt) (from ! (stop !)) (init ! 5 refl (tt, tt)) $
      stays ! (load ! (from ! (stop !)) (look ! 5 refl)) $
      assigns ! (of_opd ! (load ! (from ! (fld ! refl (stop !))) (look_in ! 8 (sub ! 1 refl (whole !))))) (from ! (stop !))
      (init ! 4 refl (tt, record { fits = room.0 })) $
      assigns ! (bin ! (load ! (from ! (stop !)) (look ! 4 refl)) (load ! (from ! (stop !)) (look ! 2 refl)) tt) (from ! (stop !))
      (store ! 5 refl (tt, tt)) $
      rewrite ! 5 (λ (t : Bool). ‵ (fat full_share ty_bool bs.10 0 (vbool t))) (lt-leb (length ys) i small) refl $
      goes_on ! (load ! (from ! (stop !)) (look ! 5 refl)) $
      assigns ! (bin ! (load ! (from ! (stop !)) (look ! 2 refl)) (lit ! (lt→ltb (size form) (2 ^ 64) size_fits))
      (record { fits = scaled })) (from ! (stop !)) (store ! 4 refl (tt, record { fits = scaled })) $
      assigns ! (bin ! (load ! (from ! (fld ! refl (stop !))) (look_in ! 8 (sub ! 0 refl (whole !))))
      (load ! (from ! (stop !)) (look ! 4 refl)) tt) (from ! (stop !)) (init ! 6 refl (tt, tt)) $
      rewrite ! 6 (λ (p : ℕ). ‵ (fat full_share ty_ptr bs.12 0 (vptr b p))) (sym (place_is (size form) o i)) refl $
      move ! (11 ∷ 10 ∷ []) $
      looks_slice ! tt Row (LL.copied Elem elem_copy 𝓛) ys b o (λ q'.
      elem_out ! Row (Is Row) (shows 𝓛 Row) (LL.vals Elem elem_laws) (LL.tells Elem elem_laws) q' ys i no_elem b o small (λ p.
      -- [record i; what it owns; the others; what shuts; the structs; _4 at 5; what it owns; _6; _7; _11; _10; _12 at 11; _13; _3;
      -- _0; the fact; …]
      assigns ! (of_opd ! (load ! (from ! (hop ! (look ! 11 refl) (stop !))) (look_raw ! 0 refl))) (from ! (stop !))
      (init ! 12 refl ((LL.lawful Elem elem_laws 𝓛).typed (get_or ys i no_elem) _ p).0) $
      assigns ! (of_opd ! (load ! (from ! (stop !)) (look ! 12 refl))) (from ! (stop !))
      (init ! 8 refl ((LL.lawful Elem elem_laws 𝓛).typed (get_or ys i no_elem) _ p).0) $
      elem_back ! Row q' ys i no_elem (LL.vals Elem elem_laws (get_or ys i no_elem)) b o small $ shuts_slice ! tt Row q' ys b o $
      -- the layout is lent for the call
      assigns ! (addr ! (from ! (stop !))) (from ! (stop !)) (init ! 32 refl (tt, tt)) $
      lft_new ! tt (λ α. move ! (34 ∷ []) $
      use1 𝓛 (later (some (λ (δ : GName). ‵
      ((MutRef (named 0) (α ∷ []) (MadeRow form)).own_val (record { ref_ptr = (bs.5, 0); ghost_name = δ; now = h }) (vptr bs.5 0 ∷ [])) ⊛ ‵
      (flent (α ∷ []) (Body (lies (MadeRow form)) bs.5 0 δ))))) (lends_ref 𝓛 (MadeRow form) (named 0) (α ∷ []) h bs.5 0) $
      await ! tt $ pick ! (λ δ. split ! $
      -- [what the reference owns; the lender's part; its token; the token; the structs; _4 at 5; what it owns; …; _14 at 35]
      nothing ! $ owned ! Row (Is Row) (LL.makes Elem elem_plain 𝓛) (get_or ys i no_elem) _ p $ fjoin ! $
      owned ! usize (Is usize) (uint_Makes 𝓛 w64) i _ (refl, i_fits) $ fjoin ! $
      owned ! u8 (Is u8) (uint_Makes 𝓛 w8) lm _ (refl, lm_fits) $ fjoin ! $
      owned ! u8 (Is u8) (uint_Makes 𝓛 w8) n _ (refl, n_fits) $ fjoin ! $ move ! (7 ∷ 0 ∷ []) $ fjoin ! $ move !
      (1 ∷ 0 ∷ []) $ fjoin ! $ nothing ! $ move ! (3 ∷ 0 ∷ []) $ join ! $
      use2 𝓛 (raw ((Add form 𝓛).pre (to_add 𝓛 input α δ bs.5 f u h i (get_or ys i no_elem))))
      (asked_add 𝓛 input α δ bs.5 f u h i (get_or ys i no_elem) ok) $
      calls_at ! (fm_of 𝓤 H 𝓛.laws 𝓣) (Add form 𝓛) known.add (to_add 𝓛 input α δ bs.5 f u h i (get_or ys i no_elem))
      (and_then ! (load ! (from ! (stop !)) (look ! 33 refl))
      (and_then ! (load ! (from ! (stop !)) (look ! 4 refl))
      (and_then ! (load ! (from ! (stop !)) (look ! 14 refl))
      (and_then ! (load ! (from ! (stop !)) (look ! 15 refl))
      (and_then ! (load ! (from ! (stop !)) (look ! 5 refl))
      (and_then ! (load ! (from ! (stop !)) (look ! 6 refl))
      (no_more !))))))) (λ v.
      use1 𝓛 (add_gives 𝓛 input α δ bs.5 f u h i (get_or ys i no_elem) v) (id⊢ 𝓤 _) $ await ! tt $ pick !
      (λ r. split ! $ move ! (1 ∷ []) $
      use1 𝓛 (add_ensures 𝓛 input α δ bs.5 f u h i (get_or ys i no_elem) r) (id⊢ 𝓤 _) $ pick !
      (λ ws. split ! $ move ! (1 ∷ []) $ heard ! (form.Added n lm f h i (get_or ys i no_elem) r ws.0) (λ e.
      -- of the reference there is what says its last value, and its borrow, which goes
      fsplit ! $ fsplit ! $ move ! (1 ∷ []) $ drop ! $ move ! (2 ∷ []) $ split ! $ split ! $
      -- and comes back
      lft_end ! tt $ move ! (0 ∷ 5 ∷ 3 ∷ []) $
      use3 𝓛 (later (Made input bs ws.0)) (ref_back 𝓛 (MadeRow form) (α ∷ []) δ ws.0 bs.5 0) $
      await ! tt $ move ! (2 ∷ []) $
      peeks ! u32 (Is u32) (shows 𝓛 u32) r (v ∷ []) (λ is.
      land ! (from ! (stop !)) (store ! 6 refl ((uint_Lawful 𝓛 w32).typed r _ is).0) $
      assigns_last ! (bin ! (load ! (from ! (stop !)) (look ! 7 refl)) (lit ! tt) (record { fits = next })) (from ! (stop !))
      (store ! 7 refl (tt, record { fits = next })) $
      forget ! 8 refl $ forget ! 9 refl $ forget ! 10 refl $ forget ! 11 refl $ forget ! 12 refl $ forget ! 35 refl $
      keep ! (6 ∷ 0 ∷ 7 ∷ 8 ∷ 9 ∷ 10 ∷ 11 ∷ 12 ∷ 13 ∷ 14 ∷ 4 ∷ 5 ∷ 15 ∷ 16 ∷ 17 ∷ 18 ∷ 19 ∷ 20 ∷ 21 ∷ 22 ∷ 23 ∷ 24 ∷ 25 ∷ 26 ∷ 27 ∷
      28 ∷ 29 ∷ 30 ∷ 31 ∷ 32 ∷ 33 ∷ 34 ∷ 35 ∷ 1 ∷ []) $ by ! (k r v ws.0 e))))))))))

  -- the turn that leaves the loop where a struct is refused
  pub refuses : (held_by : Behind form) (i f : ℕ) (h : List ℕ) (X : SProp 𝓤) → held_by.Behind n lm ys (length ys) (suc f) h
      → ent 𝓤 (⋆ 𝓛 (At input bs i (suc f) (vint w32 (suc f)) h)) (Turns X)
  unfolding after_turn
  refuses held_by i f h X e =
      qed 𝓛 (At input bs i (suc f) (vint w32 (suc f)) h) ∵ exec ! 𝓣.C 𝓣.Λ (En form bs) (turn form) (any_q (Turned X)) $
      assigns ! (bin ! (load ! (from ! (stop !)) (look ! 0 refl)) (lit ! tt) tt) (from ! (stop !)) (init ! 5 refl (tt, tt)) $
      rewrite ! 5 (λ (t : Bool). ‵ (fat full_share ty_bool bs.10 0 (vbool t))) (ne_eqb (suc f) 0 (λ q. omega arith)) refl $
      leaves_loop ! (load ! (from ! (stop !)) (look ! 5 refl)) $
      by ! (finishes 𝓛 input 𝓣 bs known held_by i (suc f) (vint w32 (suc f)) h false e)

  -- and the one that leaves it at the end of the slice
  pub ends : (held_by : Behind form) (h : List ℕ) (X : SProp 𝓤) → held_by.Behind n lm ys (length ys) 0 h
      → ent 𝓤 (⋆ 𝓛 (At input bs (length ys) 0 (vint w32 0) h)) (Turns X)
  unfolding after_turn
  ends held_by h X e =
      qed 𝓛 (At input bs (length ys) 0 (vint w32 0) h) ∵ exec ! 𝓣.C 𝓣.Λ (En form bs) (turn form) (any_q (Turned X)) $
      assigns ! (bin ! (load ! (from ! (stop !)) (look ! 0 refl)) (lit ! tt) tt) (from ! (stop !)) (init ! 5 refl (tt, tt)) $
      stays ! (load ! (from ! (stop !)) (look ! 5 refl)) $
      assigns ! (of_opd ! (load ! (from ! (fld ! refl (stop !))) (look_in ! 8 (sub ! 1 refl (whole !))))) (from ! (stop !))
      (init ! 4 refl (tt, record { fits = room.0 })) $
      assigns ! (bin ! (load ! (from ! (stop !)) (look ! 4 refl)) (load ! (from ! (stop !)) (look ! 2 refl)) tt) (from ! (stop !))
      (store ! 5 refl (tt, tt)) $
      rewrite ! 5 (λ (t : Bool). ‵ (fat full_share ty_bool bs.10 0 (vbool t))) (le-leb (length ys) (length ys) (omega arith)) refl $
      breaks_loop ! (load ! (from ! (stop !)) (look ! 5 refl)) $ forget ! 4 refl $
      by ! (finishes 𝓛 input 𝓣 bs known held_by (length ys) 0 (vint w32 0) h true e)
