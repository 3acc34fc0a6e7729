-- An arc that is not refused by itself has its place in the layout, and is refused there exactly if an earlier one stands in it.
use mathlib.Core.Path.{◌≡◌, sym, ◌∙◌}
use mathlib.Core.List.{[], ◌∷◌}
use Prim.Native.Nat.{ℕ, ◌≤◌}
use native.Mathlib.Omega.{arith}
use lib.ListN.{get_or}
use borrow.Author.Tests.{eq-eqb, ne_eqb}
use Rattle.method.specs.Network.{IsNode}
use Rattle.refusal.specs.Rows.{◌when◌, refused}
use Rattle.refusal.proofs.Rows.{number_after}
use Rattle.network.specs.Refusal.{lone_rows, arc_rows}
use Rattle.network.specs.Given.{given}
use Rattle.network.specs.declared.Arc.{Arc}
use Rattle.network.specs.Layout.{site, no_arc, len_at}
use Rattle.network.specs.declared.Layout.{Layout}
use Rattle.network.specs.Marks.{marked}
use Rattle.network.proofs.WithArc.{len_is}
use Rattle.network.proofs.Sound.{lone}

module _ (g : Layout) (a : Arc) (few : g.nodes ≤ 16) (none : refused (lone_rows g.nodes g.lmax (given a)) ≡ 0) where
  pub ends : IsNode 16 a.tail × IsNode 16 a.head
  ends = let s = lone g.nodes g.lmax (given a) none in ((s.tail.0, omega arith), (s.head.0, omega arith))

  -- where the length x stands at the arc's site
  module _ (x : ℕ) (at : x ≡ get_or g.lengths (site a.tail a.head) 0) where
    length_is : len_at g a.tail a.head ≡ x
    length_is = len_is g a.tail a.head ends.0.0 ends.1.0 ∙ sym at

    repeated_only : refused (arc_rows g.nodes g.lmax (marked g a.tail a.head) (given a)) ≡ refused (8 when marked g a.tail a.head ∷ [])
    repeated_only = number_after (lone_rows g.nodes g.lmax (given a)) (8 when marked g a.tail a.head ∷ []) none

    pub repeated : (x ≡ no_arc → ⊥) → 8 ≡ refused (arc_rows g.nodes g.lmax (marked g a.tail a.head) (given a))
    repeated ne = sym (repeated_only ∙ rw (ne_eqb (len_at g a.tail a.head) no_arc (λ e. ne (sym length_is ∙ e))))

    pub new : x ≡ no_arc → 0 ≡ refused (arc_rows g.nodes g.lmax (marked g a.tail a.head) (given a))
    new e = sym (repeated_only ∙ rw (eq-eqb (len_at g a.tail a.head) no_arc (length_is ∙ e)))
