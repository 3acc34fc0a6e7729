-- Each call's refusal is one of those that specs/Numbers lists for it.
use mathlib.Core.Path.{◌≡◌, refl, sym, subst}
use mathlib.Core.Logic.{◌⊎◌, inl, inr}
use mathlib.Core.Bool.{Bool, true, false, cond, ◌&&◌, ◌||◌, true≢false}
use mathlib.Core.List.{List, [], ◌∷◌, ◌++◌}
use Prim.Native.Nat.{ℕ, zero, suc, ◌*◌, ◌<◌}
use native.Mathlib.Omega.{arith}
use lib.Dec.{ltb, eqb}
use lib.ListN.{length}
use borrow.Author.Tests.{ltb-true, eqb-true}
use Rattle.bits.specs.Bits.{bits_of}
use Rattle.method.specs.Distinct.{Among}
use Rattle.method.specs.Network.{Arc}
use Rattle.method.specs.Rules.{Filled}
use Rattle.method.specs.Steps.{steps}
use Rattle.refusal.specs.Rows.{Refusal}
use Rattle.refusal.proofs.Rows.{◌next◌, rows_else}
use Rattle.refusal.proofs.Tests.{both}
use Rattle.refusal.specs.Rows.{Row, ◌when◌, refused_by, first, refused, room_rows, ◌else◌, ask_rows}
use Rattle.network.specs.Refusal.{lone_rows, arcs_rows}
use Rattle.network.specs.Bytes.{node_count, lmax, count, arcs, header_byte_rows, padding_rows, byte_rows}
use Rattle.network.specs.ArcList.{header_list_rows, list_rows}
use Rattle.network.specs.Checked.{Checked, from_bytes, from_list}
use Rattle.table.specs.File.{one}
use Rattle.table.specs.declared.Header.{Header}
use Rattle.table.specs.Reader.{header_at, header_rows, field_rows, record_rows, records_rows, end_rows, next_rows, body_rows, file_rows}
use Rattle.table.specs.Reader.{records_in}
use Rattle.table.specs.Reader.{end_of, stands, record_at}
use Rattle.call.specs.Calls.{run_rows, entry_rows, route_rows, pack_rows, write_rows}
use Rattle.zaqfinell.specs.Numbers.{of_bytes, of_list, of_file, NoneOr, NumbersOf, Numbers}
use Rattle.zaqfinell.proofs.Refused.{read_refused, table_refused}

-- a test for being among numbers, which computes
abbrev is_among : ℕ → List ℕ → Bool
is_among N [] = false
is_among N (x ∷ xs) = eqb N x || is_among N xs

among : (N : ℕ) (xs : List ℕ) → is_among N xs ≡ true → Among N xs
among N [] e = absurd (true≢false (sym e))
among N (x ∷ xs) e = go (eqb N x) refl e (among N xs)
  where
    go : (t : Bool) → eqb N x ≡ t → t || is_among N xs ≡ true → (is_among N xs ≡ true → Among N xs) → (N ≡ x) ⊎ Among N xs
    go true is e rec = inl (eqb-true N x is)
    go false is e rec = inr (rec e)

-- in the first of two lists, or in the second
in_first : (N : ℕ) (xs ys : List ℕ) → Among N xs → Among N (xs ++ ys)
in_first N [] ys p = absurd p
in_first N (x ∷ xs) ys (inl e) = inl e
in_first N (x ∷ xs) ys (inr p) = inr (in_first N xs ys p)

in_second : (N : ℕ) (xs ys : List ℕ) → Among N ys → Among N (xs ++ ys)
in_second N [] ys p = p
in_second N (x ∷ xs) ys p = inr (in_second N xs ys p)

-- none or one of more
pub more_after : (xs ys : List ℕ) (N : ℕ) → NoneOr xs N → NoneOr (xs ++ ys) N
more_after xs ys N p = in_first N (0 ∷ xs) ys p

more_before : (xs ys : List ℕ) (N : ℕ) → NoneOr ys N → NoneOr (xs ++ ys) N
more_before xs ys N (inl e) = inl e
more_before xs ys N (inr p) = inr (in_second N xs ys p)

-- of two numbers one after the other
either : (xs ys : List ℕ) (N M : ℕ) → NoneOr xs N → NoneOr ys M → NoneOr (xs ++ ys) (N else M)
either xs ys zero M p q = more_before xs ys M q
either xs ys (suc N) M p q = more_after xs ys (suc N) p

-- rows whose numbers are all listed
module _ (ns : List ℕ) where
  abbrev Each : List Row → Type 0
  Each [] = Unit {0}
  Each (row ∷ rows) = (is_among (suc row.below) ns ≡ true) × Each rows

  each_both : (xs ys : List Row) → Each xs → Each ys → Each (xs ++ ys)
  each_both [] ys a b = b
  each_both (row ∷ xs) ys a b = (a.0, each_both xs ys a.1 b)

  pub each_told : (rows : List Row) → Each rows → NoneOr ns (refused rows)
  each_told [] each = inl refl
  each_told (row ∷ rows) each = go row.holds (each_told rows each.1)
    where
      go : (t : Bool) → NoneOr ns (refused rows) → NoneOr ns (cond t (refused_by row) (first rows)).number
      go true rest = inr (among (suc row.below) ns each.0)
      go false rest = rest

-- the rows of a network's arcs
each_arcs : (ns : List ℕ) → Each ns (5 when true ∷ 6 when true ∷ 7 when true ∷ 8 when true ∷ []) → (n lmax : ℕ) (earlier ar : List Arc)
    → Each ns (arcs_rows n lmax earlier ar)
unfolding arcs_rows lone_rows
each_arcs ns in-ns n lmax earlier [] = tt
each_arcs ns in-ns n lmax earlier (a ∷ ar) =
    in-ns.0 next in-ns.1.0 next in-ns.1.1.0 next in-ns.1.1.1.0 next each_arcs ns in-ns n lmax (a ∷ earlier) ar

of_bytes_lem : (s : List ℕ) → NoneOr of_bytes (from_bytes s).refused
unfolding byte_rows header_byte_rows
of_bytes_lem s =
    let ar = arcs_rows (node_count s) (lmax s) [] (arcs s 0 (count s)) in
    each_told of_bytes (byte_rows s)
    (refl next refl next refl next refl next refl next
    each_both of_bytes ar (padding_rows s)
    (each_arcs of_bytes (refl next refl next refl next refl next tt) (node_count s) (lmax s) [] (arcs s 0 (count s)))
    (refl next tt))

of_list_lem : (n lmax : ℕ) (ar : List Arc) → NoneOr of_list (from_list n lmax ar).refused
unfolding list_rows header_list_rows
of_list_lem n lmax ar =
    each_told of_list (list_rows n lmax ar)
    (refl next refl next refl next each_arcs of_list (refl next refl next refl next refl next tt) n lmax [] ar)

-- and what the calls refuse after it
numbers_of : (own : List ℕ) (net : Checked) → NoneOr own net.refused → NumbersOf own net
numbers_of own net check =
    record {
      check = check;
      write = λ bs i wide. then (11 ∷ 12 ∷ 13 ∷ []) (write_rows net.meant (steps bs) i wide) (refl next refl next refl next tt);
      run = λ wide. then (13 ∷ []) (run_rows net.meant wide) (refl next tt);
      entry = λ i y. then (11 ∷ []) (entry_rows net.meant i y) (refl next refl next tt);
      route = λ bs i y wide. then (11 ∷ 13 ∷ []) (route_rows net.meant (steps bs) i y wide) (refl next refl next refl next tt);
      pack = λ wide. then (13 ∷ []) (pack_rows net.meant wide) (refl next tt);
    }
  where
    then : (more : List ℕ) (rows : List Row) → Each more rows → NoneOr (own ++ more) (net.refused else refused rows)
    then more rows each = either own more net.refused (refused rows) check (each_told more rows each)

-- of a file
each_record : (h : Header) (seen : List Filled) (e : Filled) → Each of_file (record_rows one h seen e)
unfolding field_rows
each_record h seen e = refl next refl next refl next tt

each_records : (h : Header) (es : List Filled) → Each of_file (records_rows one h es)
unfolding records_rows
each_records h [] = tt
each_records h (e ∷ es) = each_both of_file (records_rows one h es) (record_rows one h es e) (each_records h es) (each_record h es e)

each_next : (h : Header) (seen : List Filled) (B : List ℕ) (p : ℕ) → Each of_file (next_rows one h seen B p)
unfolding end_rows
each_next h seen B p = go (stands one B p)
  where
    go : (t : Bool) → Each of_file (cond t (record_rows one h seen (record_at one seen B p)) (end_rows B p))
    go true = each_record h seen (record_at one seen B p)
    go false = refl next refl next tt

pub of_file_lem : (s : List ℕ) → NoneOr of_file (refused (file_rows one s))
unfolding file_rows body_rows header_rows
of_file_lem s =
    let h : Header = header_at one (bits_of s) in
    let es : List Filled = records_in one h (bits_of s) in
    each_told of_file (file_rows one s)
    (refl next refl next refl next refl next
    each_both of_file (records_rows one h es) (next_rows one h es (bits_of s) (end_of one h (bits_of s))) (each_records h es)
    (each_next h es (bits_of s) (end_of one h (bits_of s))))

-- a file's numbers, and one of the rows after it
after_file : (s : List ℕ) (more : List ℕ) (rows : List Row) → Each more rows → NoneOr (of_file ++ more) (refused (file_rows one s ++ rows))
after_file s more rows each =
    subst (NoneOr (of_file ++ more)) (sym (rows_else (file_rows one s) rows))
    (either of_file more (refused (file_rows one s)) (refused rows) (of_file_lem s) (each_told more rows each))

pub numbers : Numbers
numbers =
    record {
      bytes = λ s. numbers_of of_bytes (from_bytes s) (of_bytes_lem s);
      list = λ n lmax ar. numbers_of of_list (from_list n lmax ar) (of_list_lem n lmax ar);
      read = λ s y. subst (λ (r : Refusal). NoneOr (of_file ++ (11 ∷ [])) r.number) (sym (read_refused s y))
          (after_file s (11 ∷ []) (ask_rows (header_at one (bits_of s)).n y) (refl next tt));
      table = λ s room. subst (λ (r : Refusal). NoneOr (of_file ++ (13 ∷ [])) r.number) (sym (table_refused s room))
          (after_file s (13 ∷ []) (room_rows (length room) (2 * (header_at one (bits_of s)).n)) (refl next tt));
    }

-- every number listed fits a byte
abbrev pub all_low : List ℕ → Bool
all_low [] = true
all_low (x ∷ xs) = ltb x 256 && all_low xs

low_among : (xs : List ℕ) (N : ℕ) → all_low xs ≡ true → Among N xs → N < 256
low_among [] N low p = absurd p
low_among (x ∷ xs) N low (inl e) = omega (arith, ltb-true x 256 (both (ltb x 256) (all_low xs) low).0)
low_among (x ∷ xs) N low (inr p) = low_among xs N (both (ltb x 256) (all_low xs) low).1 p

pub is_low : (xs : List ℕ) (N : ℕ) → all_low xs ≡ true → NoneOr xs N → N < 256
is_low xs N low p = low_among (0 ∷ xs) N low p
