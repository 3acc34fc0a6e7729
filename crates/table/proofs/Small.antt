-- How large what is read from a file can be: a first hop is a node's number or the mark beside no hop, a distance is at most 225, and a
-- file has at most 16 entries.
use mathlib.Core.Path.{◌≡◌, refl, subst}
use mathlib.Core.Bool.{Bool, true, false, cond, ◌||◌}
use mathlib.Core.List.{List, [], ◌∷◌}
use mathlib.Core.Option.{Option, none, some}
use Prim.Native.Nat.{ℕ, ◌≤◌, ◌<◌}
use native.Mathlib.Omega.{arith}
use lib.Dec.{eqb, ltb}
use Rattle.bits.specs.Bits.{bits_of}
use Rattle.bits.proofs.Bytes.{field_below}
use Rattle.method.specs.Rules.{Filled}
use Rattle.method.specs.Network.{IsNode}
use Rattle.method.specs.Entries.{Entry, unknown, unreachable, known, find, said}
use Rattle.method.specs.Marks.{hop_of}
use Rattle.method.proofs.Table.{Found, find_ok}
use Rattle.table.specs.File.{one}
use Rattle.table.specs.declared.Header.{Header}
use Rattle.table.specs.Laws.{AtMost225}
use Rattle.table.specs.Reader.{header_at, header_rows, records_in, body_rows, file_rows, Reading, refused, accepted, reading, phase_of}
use Rattle.table.specs.Reader.{Read, refusal, says, entry_from, entry_read}
use Rattle.refusal.specs.Rows.{◌when◌, first, answer, Clear}
use Rattle.refusal.proofs.Rows.{clear_both}
use Rattle.table.specs.Passed.{Passed}
use Rattle.table.proofs.Passed.{passed_hop, passed_distance, few_records}
use Rattle.table.proofs.Walk.{taken_passed, header_sound, by_reading}

-- an accepted file has at most 16 nodes, one of which is its own; LMAX is at most 15; and its records passed
pub record Sound (h : Header) (es : List Filled) : Type 0 where
  pub own : IsNode h.n h.own
  pub nodes : h.n ≤ 16
  pub lengths : h.lmax < 16
  pub passed : Passed h es

abbrev pub Accepted : Reading → Type 0
Accepted (refused r) = Unit {0}
Accepted (accepted h es mark) = Sound h es

sound : (s : List ℕ) (h : Header) → h ≡ header_at one (bits_of s) → Clear (header_rows one h s) → Sound h (records_in one h (bits_of s))
unfolding header_at
sound s h e c =
    record {
      own = (rw e (omega arith), (header_sound one h s c).1);
      nodes = rw e (omega (arith, field_below s 8 4));
      lengths = rw e (omega (arith, field_below s 12 4));
      passed = taken_passed one h (bits_of s);
    }

pub reading_sound : (s : List ℕ) → Accepted (reading one s)
unfolding file_rows
reading_sound s = by_reading one s Accepted (λ r. tt)
    (λ m c. sound s h refl (clear_both (header_rows one h s) (body_rows one h (bits_of s)) c).0)
  where
    h : Header
    h = header_at one (bits_of s)

-- a first hop is below 256
abbrev HopSmall : Read → Type 0
HopSmall (refusal r) = Unit {0}
HopSmall (says e) = hop_of e < 256

pub hop_small : (s : List ℕ) (y : ℕ) (e : Entry) → entry_read one s y ≡ says e → hop_of e < 256
hop_small s y e is = subst HopSmall is (go (reading one s) (reading_sound s))
  where
    go : (r : Reading) → Accepted r → HopSmall (entry_from r y)
    go (refused r) so = tt
    go (accepted h es mark) so = by (eqb y 0 || ltb h.n y) (eqb y h.own) mark (find y es) (find_ok y es)
      where
        by : (out self mark : Bool) (o : Option Filled) → Found y es o
            → HopSmall (answer (first (11 when out ∷ [])) refusal (says (cond self (known 0 0) (said (phase_of mark) o))))
        by true self mark o f = tt
        by false true mark o f = omega arith
        by false false true none f = omega arith
        by false false false none f = omega arith
        by false false mark (some e) f = omega (arith, (passed_hop h es so.passed e f.0).1, so.nodes)

-- a distance is at most 225: 15 records, each at most 15 further than the one before it
abbrev Near : Entry → Type 0
Near (known d h) = d ≤ 225
Near unknown = Unit {0}
Near unreachable = Unit {0}

abbrev DistanceSmall : Read → Type 0
DistanceSmall (refusal r) = Unit {0}
DistanceSmall (says e) = Near e

pub at_most_225 : AtMost225
at_most_225 s y d h is =
    let near : d ≤ 225 = subst DistanceSmall is (go (reading one s) (reading_sound s)) in
    omega arith
  where
    go : (r : Reading) → Accepted r → DistanceSmall (entry_from r y)
    go (refused r) so = tt
    go (accepted h es mark) so = by (eqb y 0 || ltb h.n y) (eqb y h.own) mark (find y es) (find_ok y es)
      where
        by : (out self mark : Bool) (o : Option Filled) → Found y es o
            → DistanceSmall (answer (first (11 when out ∷ [])) refusal (says (cond self (known 0 0) (said (phase_of mark) o))))
        by true self mark o f = tt
        by false true mark o f = omega arith
        by false false true none f = tt
        by false false false none f = tt
        by false false mark (some e) f =
            omega (arith, passed_distance h es so.passed so.lengths e f.0, few_records h so.own es so.passed, so.nodes)
