-- Refusals 14 to 18 and their places, and 11, of document 01's P4 with one thing changed.
use mathlib.Core.Path.{◌≡◌, refl}
use mathlib.Core.List.{List, [], ◌∷◌, ◌++◌, map}
use Prim.Native.Nat.{ℕ}
use Rattle.bits.specs.Bits.{as_bits, bits_of, number, field}
use Rattle.refusal.specs.Rows.{Refusal}
use Rattle.refusal.specs.Rows.{refusal, none, first}
use Rattle.table.specs.File.{one}
use Rattle.table.specs.Reader.{header_at, record_at, header_rows, field_rows, records_rows, first_one, end_rows, walk, records_in}
use Rattle.table.specs.Reader.{body_rows}
use Rattle.table.specs.Reader.{file_rows, read_rows}

abbrev read : List ℕ → Refusal
read s = first (read_rows one s 3)

abbrev file : ℕ → ℕ → ℕ → ℕ → ℕ → ℕ → List ℕ
file a b c d e f = a ∷ b ∷ c ∷ d ∷ e ∷ f ∷ []

pub places : map read
    (file 16 36 136 140 132 64
    ∷ []
    ∷ (16 ∷ [])
    ∷ file 32 36 136 140 132 64
    ∷ file 19 36 136 140 132 64
    ∷ file 16 32 136 140 132 64
    ∷ file 16 36 152 140 132 64
    ∷ file 16 36 128 140 132 64
    ∷ file 16 36 136 140 128 64
    ∷ file 16 36 136 140 133 192
    ∷ file 16 36 136 136 132 64
    ∷ file 16 36 136 140 132 65
    ∷ (file 16 36 136 140 132 64 ++ (0 ∷ []))
    ∷ (16 ∷ 20 ∷ 0 ∷ [])
    ∷ [])
    ≡ none
    ∷ refusal 14 0
    ∷ refusal 14 8
    ∷ refusal 15 0
    ∷ refusal 16 4
    ∷ refusal 16 12
    ∷ refusal 17 17
    ∷ refusal 17 17
    ∷ refusal 17 34
    ∷ refusal 17 38
    ∷ refusal 18 32
    ∷ refusal 18 47
    ∷ refusal 18 48
    ∷ refusal 11 0
    ∷ []
unfolding file_rows header_rows field_rows records_rows first_one end_rows walk records_in body_rows header_at record_at field number
    bits_of as_bits
places = refl
