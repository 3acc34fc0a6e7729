-- One read after another.
use mathlib.Core.Path.{◌≡◌, refl, ap, ◌∙◌}
use mathlib.Core.List.{List, ◌++◌, append_assoc}
use Prim.Native.Nat.{ℕ, ◌+◌, ◌-◌, ◌≤◌}
use native.Mathlib.Omega.{arith}
use lib.ListN.{length, take}
use lib.Seq.{length-take-le, take-append-add, take-append-le}
use borrow.Rule.Slice.PartMut.{put_mid, post_of}
use Rattle.std.proofs.Common.{Option, None, Some}
use Rattle.std.specs.Io.KnownBytes.{Consumes}

module _ (room part : List ℕ) (d n : ℕ) (within : d ≤ length room) (got : n ≤ length part) where
  -- what stands in the room after a read at d
  stands : take (d + n) (put_mid d (length room - d) room part) ≡ take d room ++ take n part
  stands =
      let rest = part ++ post_of d (length room - d) room in
      let e : d + n ≡ length (take d room) + n = omega (arith, length-take-le d room within) in
      ap (λ (k : ℕ). take k (take d room ++ rest)) e
      ∙ take-append-add (take d room) rest n
      ∙ ap (λ (s : List ℕ). take d room ++ s) (take-append-le n part (post_of d (length room - d) room) got)

  pub read_more : (old mid new : Option (List ℕ)) → Consumes old mid (take d room) → Consumes mid new (take n part)
      → Consumes old new (take (d + n) (put_mid d (length room - d) room part))
  read_more None mid new a b = tt
  read_more (Some xs) None new a b = absurd a
  read_more (Some xs) (Some ys) None a b = absurd b
  read_more (Some xs) (Some ys) (Some zs) a b =
      rw stands (a ∙ ap (λ (s : List ℕ). take d room ++ s) b ∙ rw (append_assoc (take d room) (take n part) zs) refl)
