-- Every law of specs/Laws holds.
use mathlib.Core.Path.{◌≡◌, refl, ap, ◌∙◌}
use mathlib.Core.List.{List, ◌∷◌}
use Prim.Native.Nat.{ℕ}
use Rattle.method.specs.Network.{Net, IsNode, Accepted}
use Rattle.method.specs.Steps.{Step, run}
use Rattle.method.specs.Entries.{known, entry}
use Rattle.method.specs.Marks.{hop_of}
use Rattle.method.specs.Route.{route}
use Rattle.method.specs.RouteLaws.{Arrives, RouteLaws}
use Rattle.method.proofs.Following.{On, route_here, route_next, route_over, route_ends, route_distinct, route_few}

module _ (net : Net) (acc : Accepted net) (bs : List Step) (i y d h : ℕ) (node : IsNode net.n i)
    (filled : entry net bs i y ≡ known d h) where
  on : On net acc bs (run net bs) refl y i
  on = record { node = node; distance = d; hop = h; filled = filled }

  arrives : Arrives net bs i y d h
  unfolding on
  arrives =
      record {
        here = route_here net acc bs (run net bs) refl y i;
        next = λ ne. route_next net acc bs (run net bs) refl y i on ne ∙ ap (λ (k : ℕ). k ∷ route (run net bs) y k) (ap hop_of filled);
        over_arcs = route_over net acc bs (run net bs) refl y i on;
        ends = route_ends net acc bs (run net bs) refl y i on;
        no_twice = route_distinct net acc bs (run net bs) refl y i on;
        few = route_few net acc bs (run net bs) refl y i on;
      }

pub laws : (net : Net) → RouteLaws net
laws net = record { arrives = arrives net }
