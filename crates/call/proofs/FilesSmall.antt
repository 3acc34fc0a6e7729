-- At most 32 numbers are written for a file.
use mathlib.Core.Path.{◌≡◌, subst}
use mathlib.Core.Bool.{Bool, true, false}
use mathlib.Core.List.{List, [], ◌∷◌}
use Prim.Native.Nat.{ℕ, ◌≤◌}
use native.Mathlib.Omega.{arith}
use lib.Dec.{ltb}
use lib.ListN.{length}
use Rattle.method.specs.Marks.{entry_numbers}
use Rattle.method.proofs.EntryNumbers.{length_numbers}
use Rattle.refusal.specs.Rows.{◌when◌, first, answer}
use Rattle.table.specs.File.{one}
use Rattle.table.specs.Reader.{Reading, refused, accepted, reading, entry_in}
use Rattle.std.proofs.Common.{Result, Ok, Err}
use Rattle.refusal.specs.Rows.{Refusal}
use Rattle.table.proofs.Small.{Accepted, reading_sound}
use Rattle.call.specs.Files.{entries_outcome}

abbrev NumbersSmall : Result ℕ Refusal → Type 0
NumbersSmall (Ok k) = k ≤ 32
NumbersSmall (Err r) = Unit {0}

pub numbers_small : (s room : List ℕ) (k : ℕ) → entries_outcome (reading one s) room ≡ Ok k → k ≤ 32
numbers_small s room k is = subst NumbersSmall is (go (reading one s) (reading_sound s))
  where
    go : (r : Reading) → Accepted r → NumbersSmall (entries_outcome r room)
    go (refused r) so = tt
    go (accepted h es mark) so = by (ltb (length room) (length what))
      where
        what : List ℕ
        what = entry_numbers (entry_in h es mark) h.n

        by : (b : Bool) → NumbersSmall (answer (first (13 when b ∷ [])) Err (Ok (length what)))
        by true = tt
        by false = omega (arith, length_numbers (entry_in h es mark) h.n, so.nodes)
