-- A way passes fewer nodes than an accepted network has.
use mathlib.Core.Path.{◌≡◌, refl}
use mathlib.Core.List.{List}
use Prim.Native.Nat.{ℕ, ◌<◌}
use native.Mathlib.Omega.{arith}
use lib.ListN.{length}
use Rattle.method.specs.Network.{Net, IsNode, Accepted}
use Rattle.method.specs.Steps.{Step, run}
use Rattle.method.specs.Entries.{Entry, unknown, unreachable, known, entry}
use Rattle.method.specs.Route.{route, passed, way}
use Rattle.method.proofs.RouteLaws.{laws as route-laws}

pub way_few : (net : Net) → Accepted net → (bs : List Step) (i y : ℕ) → IsNode net.n i → length (way (run net bs) y i) < 16
way_few net acc bs i y at = go (entry net bs i y) refl
  where
    go : (x : Entry) → entry net bs i y ≡ x → length (passed x (route (run net bs) y i)) < 16
    go unknown is = omega arith
    go unreachable is = omega arith
    go (known d h) is = omega (arith, ((route-laws net).arrives acc bs i y d h at is).few, acc.sizes.nodes)
