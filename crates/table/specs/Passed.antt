-- Records that refusal 17 lets pass, one after the other: the method's sound records whose first difference is not 0.
use Rattle.std.specs.Prelude.{◌≤◌, ◌≡◌, List, [], ◌∷◌, length}
use Rattle.method.specs.Rules.{Filled}
use Rattle.method.specs.Entries.{Sound}
use Rattle.table.specs.declared.Header.{Header}

-- a record after those seen
pub record Next (h : Header) (seen : List Filled) (e : Filled) : Type 0 where
  pub sound : Sound h.n h.lmax h.own seen e
  pub first : length seen ≡ 0 → 1 ≤ e.distance

-- all of them, newest first
abbrev pub Passed : Header → List Filled → Type 0
Passed h [] = Unit {0}
Passed h (e ∷ es) = Next h es e × Passed h es
