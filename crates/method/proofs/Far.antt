-- How far a run has come, however messages travel: nodes started and messages handed over. Neither is ever undone, and there is room for so
-- many of both.
use mathlib.Core.Path.{◌≡◌, refl, sym, subst}
use mathlib.Core.Logic.{◌⊎◌, inl, inr}
use mathlib.Core.Bool.{Bool, true, false}
use mathlib.Core.List.{List, [], ◌∷◌}
use Prim.Native.Nat.{ℕ, zero, suc, ◌+◌, ◌*◌, ◌≤◌, ◌<◌, zero-le}
use native.Mathlib.Omega.{arith}
use lib.Dec.{ltb}
use lib.ListN.{length, get_elem?}
use borrow.Author.Tests.{ltb-true}
use Rattle.std.specs.Prelude.{if◌then◌else◌}
use Rattle.method.specs.Network.{Arc, Net, IsNode, IsArc}
use Rattle.method.specs.Rules.{Phase, unstarted, started, stopped}
use Rattle.method.specs.Bounds.{starts_and}
use Rattle.method.specs.Steps.{Step, start, deliver, Named, node, arc, nothing, arc_named, names}
use Rattle.method.proofs.Numbers.{last_or_before}
use Rattle.method.proofs.Turns.{stage}

-- what a step names is of the network
abbrev pub IsNamed : Net → Named → Type 0
IsNamed net (node i) = IsNode net.n i
IsNamed net (arc i j) = (l : ℕ) × IsArc net.arcs i j l
IsNamed net nothing = Unit {0}

named_arc : (net : Net) (ar : List Arc) → ((i j l : ℕ) → IsArc ar i j l → IsArc net.arcs i j l) → (k : ℕ)
    → IsNamed net (arc_named (get_elem? ar k))
named_arc net [] in-net k = tt
named_arc net (a ∷ ar) in-net zero = (a.len, in-net a.tail a.head a.len (inl (refl, refl, refl)))
named_arc net (a ∷ ar) in-net (suc k) = named_arc net ar (λ i j l q. in-net i j l (inr q)) k

pub named : (net : Net) (b : Step) → IsNamed net (names net b)
named net (start zero) = tt
named net (start (suc i)) = go (ltb i net.n) refl
  where
    go : (t : Bool) → ltb i net.n ≡ t → IsNamed net (if t then node (suc i) else nothing)
    go true e = let lt = ltb-true i net.n e in (omega arith, omega arith)
    go false e = tt
named net (deliver zero) = tt
named net (deliver (suc k)) = named_arc net net.arcs (λ i j l q. q) k

-- 1 for a node that has started, stopped or not
abbrev pub starts : Phase → ℕ
starts unstarted = 0
starts started = 1
starts stopped = 1

-- how many of the nodes 1 to k have started
abbrev pub started_to : (ℕ → Phase) → ℕ → ℕ
started_to ph zero = 0
started_to ph (suc k) = starts (ph (suc k)) + started_to ph k

-- how many messages the arcs have handed over, where (i,j) has handed over `given i j`
abbrev pub handed_over : (ℕ → ℕ → ℕ) → List Arc → ℕ
handed_over given [] = 0
handed_over given (a ∷ ar) = given a.tail a.head + handed_over given ar

abbrev pub far : Net → (ℕ → Phase) → (ℕ → ℕ → ℕ) → ℕ
far net ph given = started_to ph net.n + handed_over given net.arcs

starts_few : (ph : Phase) → starts ph ≤ 1
starts_few unstarted = omega arith
starts_few started = omega arith
starts_few stopped = omega arith

started_few : (ph : ℕ → Phase) (k : ℕ) → started_to ph k ≤ k
started_few ph zero = zero-le
started_few ph (suc k) = omega (arith, starts_few (ph (suc k)), started_few ph k)

handed_few : (given : ℕ → ℕ → ℕ) (m : ℕ) (ar : List Arc) → ((i j l : ℕ) → IsArc ar i j l → given i j ≤ m)
    → handed_over given ar ≤ length ar * m
handed_few given m [] le = zero-le
handed_few given m (a ∷ ar) le =
    omega (arith, le a.tail a.head a.len (inl (refl, refl, refl)), handed_few given m ar (λ i j l q. le i j l (inr q)))

-- where no arc has handed over more than m
pub far_few : (net : Net) (ph : ℕ → Phase) (given : ℕ → ℕ → ℕ) (m : ℕ) → ((i j l : ℕ) → IsArc net.arcs i j l → given i j ≤ m)
    → far net ph given ≤ starts_and net m
far_few net ph given m each = omega (arith, started_few ph net.n, handed_few given m net.arcs each)

-- it never goes back
starts_one : (ph : Phase) → 1 ≤ stage ph → 1 ≤ starts ph
starts_one unstarted le = le
starts_one started le = omega arith
starts_one stopped le = omega arith

pub starts_le : (ph ph' : Phase) → stage ph ≤ stage ph' → starts ph ≤ starts ph'
starts_le unstarted ph' le = zero-le
starts_le started ph' le = starts_one ph' le
starts_le stopped ph' le = starts_one ph' (omega arith)

module _ (ph ph' : ℕ → Phase) (given given' : ℕ → ℕ → ℕ) (on : (i : ℕ) → stage (ph i) ≤ stage (ph' i))
    (more : (i j : ℕ) → given i j ≤ given' i j) where
  started_le : (k : ℕ) → started_to ph k ≤ started_to ph' k
  started_le zero = zero-le
  started_le (suc k) = omega (arith, starts_le (ph (suc k)) (ph' (suc k)) (on (suc k)), started_le k)

  started_lt : (k i : ℕ) → IsNode k i → starts (ph i) < starts (ph' i) → started_to ph k < started_to ph' k
  started_lt zero i at lt = absurd (omega arith)
  started_lt (suc k) i at lt = go (last_or_before k i at) (λ m. started_lt k i m lt)
    where
      go : (i ≡ suc k) ⊎ IsNode k i → (IsNode k i → started_to ph k < started_to ph' k) → started_to ph (suc k) < started_to ph' (suc k)
      go (inl e) rec =
          let now : starts (ph (suc k)) < starts (ph' (suc k)) = subst (λ (m : ℕ). starts (ph m) < starts (ph' m)) e lt in
          omega (arith, started_le k)
      go (inr there) rec = omega (arith, starts_le (ph (suc k)) (ph' (suc k)) (on (suc k)), rec there)

  handed_le : (ar : List Arc) → handed_over given ar ≤ handed_over given' ar
  handed_le [] = zero-le
  handed_le (a ∷ ar) = omega (arith, more a.tail a.head, handed_le ar)

  handed_lt : (ar : List Arc) (i j l : ℕ) → IsArc ar i j l → given i j < given' i j → handed_over given ar < handed_over given' ar
  handed_lt [] i j l q lt = absurd q
  handed_lt (a ∷ ar) i j l (inl q) lt =
      let now : given a.tail a.head < given' a.tail a.head =
      subst (λ (x : ℕ). given x a.head < given' x a.head) (sym q.0) (subst (λ (y : ℕ). given i y < given' i y) (sym q.1) lt) in
      omega (arith, handed_le ar)
  handed_lt (a ∷ ar) i j l (inr q) lt = omega (arith, more a.tail a.head, handed_lt ar i j l q lt)

  pub far_le : (net : Net) → far net ph given ≤ far net ph' given'
  far_le net = omega (arith, started_le net.n, handed_le net.arcs)

  -- a node has started
  far_starts : (net : Net) (i : ℕ) → IsNode net.n i → starts (ph i) < starts (ph' i) → far net ph given < far net ph' given'
  far_starts net i at lt = omega (arith, started_lt net.n i at lt, handed_le net.arcs)

  -- an arc has handed over a message
  far_hands : (net : Net) (i j l : ℕ) → IsArc net.arcs i j l → given i j < given' i j → far net ph given < far net ph' given'
  far_hands net i j l a lt = omega (arith, started_le net.n, handed_lt net.arcs i j l a lt)

  -- what a taken step has named
  pub far_on : (net : Net) (o : Named) → IsNamed net o → ((i : ℕ) → o ≡ node i → starts (ph i) < starts (ph' i))
      → ((i j : ℕ) → o ≡ arc i j → given i j < given' i j) → (o ≡ nothing → ⊥) → far net ph given < far net ph' given'
  far_on net (node i) at wakes hands some-named = far_starts net i at (wakes i refl)
  far_on net (arc i j) a wakes hands some-named = far_hands net i j a.0 a.1 (hands i j refl)
  far_on net nothing u wakes hands some-named = absurd (some-named refl)
