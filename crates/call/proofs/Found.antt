-- A network of which something was found: where it is refused, that is what a call is refused with; and where it is not, it is laid out.
use mathlib.Core.Path.{◌≡◌, sym, subst, ◌∙◌}
use Prim.Native.Nat.{ℕ}
use native.Mathlib.Omega.{arith}
use Rattle.std.proofs.Common.{Ok, Err}
use Rattle.method.specs.Network.{Net, Accepted}
use Rattle.refusal.specs.Rows.{◌else◌}
use Rattle.refusal.specs.Told.{number_of}
use Rattle.refusal.specs.declared.Reason.{Reason}
use Rattle.refusal.proofs.Rows.{else_some, else_zero}
use Rattle.refusal.proofs.Told.{some}
use Rattle.network.specs.Checked.{Checked}
use Rattle.network.specs.Layout.{net_of}
use Rattle.network.specs.Found.{Finds}
use Rattle.network.specs.declared.Network.{Network}
use Rattle.network.proofs.Laws.{laid}

-- the network's own refusal comes first
module _ (net : Checked) (reason : Reason) (is : Finds net (Err reason)) where
  pub refused_first : (q : ℕ) → number_of reason ≡ net.refused else q
  refused_first q = is.refused ∙ sym (else_some net.refused q (λ z. omega (arith, some reason, is.refused)))

  pub is_refused : (q : ℕ) → net.refused else q ≡ 0 → ⊥
  is_refused q z = omega (arith, some reason, refused_first q)

module _ (net : Checked) (a : Network) (is : Finds net (Ok a)) where
  -- else the other rows tell
  pub others_tell : (q : ℕ) → net.refused else q ≡ q
  others_tell q = else_zero net.refused q (sym is.refused)

  pub accepted : Accepted net.meant
  accepted = subst Accepted is.meant (laid a).accepted

  -- what holds of the network that is laid out holds of the one meant
  pub of_meant : (P : Net → Type 0) → P (net_of a.layout) → P net.meant
  of_meant P p = subst P is.meant p
