-- Network Q of document 01 as an arc list, made bytes.
use mathlib.Core.Path.{◌≡◌, refl}
use mathlib.Core.List.{[], ◌∷◌, map}
use Prim.Native.Nat.{ℕ, ◌*◌}
use lib.ListN.{replicate}
use Rattle.network.specs.Refusal.{joined, lone_rows, arcs_rows}
use Rattle.network.specs.ArcList.{header_list_rows, list_rows}
use Rattle.network.specs.Checked.{from_list}
use Rattle.network.proofs.Example.{list}
use Rattle.call.specs.Calls.{pack_answer}

-- nine bytes, or the refusal; and a room of eight is short
pub Q-answers : map (λ (x : ℕ × ℕ). pack_answer (from_list 3 4 (list x.0)) (replicate x.1 0))
    ((4, 9) ∷ (5, 9) ∷ (4, 8) ∷ (5, 8) ∷ []) ≡ 256 * 9 ∷ 7 ∷ 13 ∷ 7 ∷ []
unfolding header_list_rows list_rows arcs_rows lone_rows joined
Q-answers = refl
