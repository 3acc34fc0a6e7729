-- The writer's parts: the header, the records, what ends the file, and the bytes of all of it.
use mathlib.Core.Path.{◌≡◌, sym, ◌∙◌, ap, ap₂}
use mathlib.Core.List.{List, [], ◌∷◌, ◌++◌, append_assoc, append-nil}
use mathlib.Core.Bool.{Bool, true, false}
use Prim.Native.Nat.{ℕ, suc, ◌+◌, ◌-◌, ◌*◌, ◌/◌, ◌%◌, ◌^◌, ◌≤◌, ◌<◌}
use native.Mathlib.Omega.{arith}
use lib.ListN.{length, get_or, take, drop, replicate, take-append-drop}
use lib.Seq.{length-take-le}
use Rattle.std.specs.Prelude.{map, reverse}
use Rattle.std.proofs.lemmas.List.{length-reverse, length-map, map_more, reverse-append}
use Rattle.bits.specs.Bits.{as_bits, bits_of, packed, Bytes}
use Rattle.bits.proofs.Below.{below_take}
use Rattle.bits.proofs.AsBits.{as_bits_mod, as_bits_join, as_bits_zeros, as_bits_ones}
use Rattle.bits.proofs.Bytes.{packed_bits}
use Rattle.method.specs.Rules.{Filled}
use Rattle.method.specs.Meant.{filled}
use Rattle.method.specs.declared.Filled
use Rattle.method.specs.Entries.{last_distance}
use Rattle.table.specs.File.{Form, one, header_bits, record_bits, body_bits, to_edge, end_bits, file_bits, file_of, start_of}
use Rattle.table.specs.declared.Header.{Header}
use Rattle.table.specs.Size.{bytes_for}
use Rattle.table.proofs.Sizes.{length_body, length_file_bits, length_file}
use Rattle.table_writer.specs.Code.{three_fields, records_bits, Pending}
use Rattle.table_writer.specs.Lent.{newest_first}
use Rattle.table_writer.specs.Adds.{Adds}
use Rattle.table_writer.specs.declared.Begun.{Begun}

-- a 1 in w bits and three fields of 4
joined_bits : (w a b c : ℕ) → as_bits (w + 4 + 4 + 4) (three_fields a b c) ≡ as_bits w 1 ++ as_bits 4 a ++ as_bits 4 b ++ as_bits 4 c
joined_bits w a b c =
    as_bits_join (w + 4 + 4) 4 ((16 + a % 16) * 16 + b % 16) (c % 16) (omega arith)
    ∙ rw (
      as_bits_join (w + 4) 4 (16 + a % 16) (b % 16) (omega arith),
      as_bits_join w 4 1 (a % 16) (omega arith),
      as_bits_mod 4 a,
      as_bits_mod 4 b,
      as_bits_mod 4 c,
    )

-- the header's
pub header_joined : (h : Header) → as_bits 16 (three_fields (h.own - 1) (h.n - 1) h.lmax) ≡ header_bits one h
unfolding header_bits
header_joined h = joined_bits 4 (h.own - 1) (h.n - 1) h.lmax

-- and a record's
pub record_joined : (last : ℕ) (e : Filled)
    → as_bits 13 (three_fields (e.target - 1) (e.hop - 1) (e.distance - last)) ≡ record_bits one last e
unfolding record_bits
record_joined last e = joined_bits 1 (e.target - 1) (e.hop - 1) (e.distance - last)

-- as many records are held as are lent, and one more is the newest
pub length_newest : (records : List Filled.Filled) → length (newest_first records) ≡ length records
length_newest records = length-reverse (map filled records) ∙ length-map records filled

pub newest_more : (records : List Filled.Filled) (i : ℕ) (d : Filled.Filled) → i < length records
    → newest_first (take (i + 1) records) ≡ filled (get_or records i d) ∷ newest_first (take i records)
newest_more records i d g =
    ap reverse (map_more filled records i d g) ∙ reverse-append (map filled (take i records)) (filled (get_or records i d) ∷ [])

-- one after the other is added
pub adds_none : (room : List ℕ) (b : Begun) → Adds room b room b []
adds_none room b = λ before F p. record { bits = p.bits ∙ sym (append-nil F); rest = p.rest }

pub adds_then : (room₀ room₁ room₂ : List ℕ) (b₀ b₁ b₂ : Begun) (G H : List ℕ) → Adds room₀ b₀ room₁ b₁ G → Adds room₁ b₁ room₂ b₂ H
    → Adds room₀ b₀ room₂ b₂ (G ++ H)
adds_then room₀ room₁ room₂ b₀ b₁ b₂ G H one two =
    λ before F p.
    let q = two before (F ++ G) (one before F p) in
    record { bits = q.bits ∙ append_assoc F G H; rest = q.rest }

-- what ends the file at bit p, where n bits of its byte are held
pub end_marked : (p : ℕ) → as_bits (8 - p % 8) 0 ≡ end_bits true p
end_marked p =
    let s : 8 - p % 8 ≡ suc (to_edge (p + 1)) = omega arith in
    as_bits_zeros (8 - p % 8) ∙ ap (λ (n : ℕ). replicate n 0) s

pub end_filled : (p : ℕ) → 0 < p % 8 → as_bits (8 - p % 8) (2 ^ (8 - p % 8) - 1) ≡ end_bits false p
end_filled p g =
    let w : ℕ = 8 - p % 8 in
    let s : w ≡ to_edge p = omega arith in
    as_bits_ones w w (omega arith) ∙ ap (λ (k : ℕ). replicate k 1) s

pub body_parts : (f : Form) (h : Header) (es : List Filled) → body_bits f h es ≡ header_bits f h ++ records_bits f es
unfolding body_bits records_bits
body_parts f h [] = sym (append-nil (header_bits f h))
body_parts f h (e ∷ es) = rw (body_parts f h es) (append_assoc (header_bits f h) (records_bits f es) (record_bits f (last_distance es) e))

-- a room with all of a file's bits
pub file_stands : (before room : List ℕ) (x : ℕ) (h : Header) (es : List Filled) (mark : Bool) → Bytes room → length room ≡ length before
    → bytes_for mark (start_of one (length es)) ≤ length before
    → Pending before room (bytes_for mark (start_of one (length es))) 0 x (body_bits one h es ++ end_bits mark (start_of one (length es)))
    → room ≡ file_of one h es mark ++ drop (length (file_of one h es mark)) before
unfolding as_bits file_of file_bits
file_stands before room x h es mark by l g p =
    let c : ℕ = bytes_for mark (start_of one (length es)) in
    let F : List ℕ = file_bits one h es mark in
    let t : length (take c room) ≡ c = length-take-le c room (omega arith) in
    let s : length F / 8 ≡ c = omega (arith, length_file_bits one h es mark) in
    let e : bits_of (take c room) ≡ F =
    sym (append-nil (bits_of (take c room))) ∙ p.bits
    ∙ ap (λ (n : ℕ). body_bits one h es ++ end_bits mark n) (sym (length_body one h es)) in
    rw (length_file one h es mark) (sym (take-append-drop c room)
    ∙ ap₂ (λ (a b : List ℕ). a ++ b) (sym (packed_bits (take c room) (below_take c by)) ∙ ap₂ packed (t ∙ sym s) e) p.rest)
