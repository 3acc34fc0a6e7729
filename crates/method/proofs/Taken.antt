-- How many steps can be taken, law m: each starts a node or hands over a message.
use mathlib.Core.Path.{◌≡◌, refl, sym, ap, subst}
use mathlib.Core.Bool.{Bool}
use mathlib.Core.List.{List, [], ◌∷◌}
use Prim.Native.Nat.{ℕ, suc, ◌+◌, ◌-◌, ◌*◌, ◌≤◌, ◌<◌}
use native.Mathlib.Nat.{mul-le-mul, mul-le-mul_left}
use native.Mathlib.Omega.{arith}
use lib.ListN.{length}
use borrow.Author.Tests.{eq-eqb}
use Rattle.std.specs.Prelude.{if◌then◌else◌}
use Rattle.method.specs.Network.{Net, IsArc, Sizes, Valid}
use Rattle.method.specs.Bounds.{most_sent, most_taken, most_taken_sharp}
use Rattle.method.specs.Rules.{Phase, unstarted, started, stopped}
use Rattle.method.specs.Work.{Site, became, work, begun}
use Rattle.method.specs.Steps.{State, sents, fresh, Step, Named, node, names, Kind, taken, idle, unknown, starting, carried_out, step}
use Rattle.method.specs.Steps.{run_from, run, Counts, counted, counts_from, counts}
use Rattle.method.specs.Entries.{nodes}
use Rattle.method.specs.Invariant.{Inv}
use Rattle.method.proofs.Far.{starts, far, far_few, starts_le, far_le, far_on, named}
use Rattle.method.proofs.Working.{work_ok}
use Rattle.method.proofs.Runs.{begun_site, true_lists, fresh_ok, step_ok, run_ok}
use Rattle.method.proofs.Always.{run_lawful}
use Rattle.method.proofs.Counted.{step_counts}
use Rattle.method.proofs.Handed.{hands_over}
use Rattle.method.proofs.Tight.{sent_tight}

-- how far a state has come
abbrev come : Net → State → ℕ
come net st = far net (λ i. (st i).node.phase) (λ i j. (st i).delivered j)

-- an arc hands over at most what its head has sent
come_few : (net : Net) → Valid net → (bs : List Step) → come net (run net bs) ≤ most_taken_sharp net
come_few net va bs = far_few net (λ i. (run net bs i).node.phase) (λ i j. (run net bs i).delivered j) (most_sent net) each
  where
    each : (i j l : ℕ) → IsArc net.arcs i j l → (run net bs i).delivered j ≤ most_sent net
    each i j l a =
        omega (
          arith,
          (run_ok net va bs i).site.delivered_le j,
          sent_tight net va (nodes net bs) (run_lawful net va bs) j (va.heads i j l a),
        )

-- a taken step goes on: a node starts, or an arc hands over a message
module _ (net : Net) (va : Valid net) (st : State) (inv : Inv net st) where
  starting_wakes : (i : ℕ) (ph : Phase) → (st i).node.phase ≡ ph → (starting ph net st i).kind ≡ taken
      → starts (st i).node.phase < starts ((starting ph net st i).state i).node.phase
  starting_wakes i unstarted e t =
      let s : Site = became (st i) (begun i) in
      let on = (work_ok net va i (sents st) (true_lists net va st inv) s (begun_site net st inv i e) refl).later.node.stage_le in
      let was : starts (st i).node.phase ≡ 0 = ap starts e in
      let now : (starting unstarted net st i).state i ≡ work net i (sents st) s =
      ap (λ (b : Bool). if b then work net i (sents st) s else st i) (eq-eqb i i refl) in
      subst (λ (r : Site). starts (st i).node.phase < starts r.node.phase) (sym now)
      (omega (arith, starts_le started (work net i (sents st) s).node.phase on))
  starting_wakes i started e t = let z : ◌≡◌ {A = ℕ} 0 1 = cc in absurd (omega arith)
  starting_wakes i stopped e t = let z : ◌≡◌ {A = ℕ} 0 1 = cc in absurd (omega arith)

  wakes : (b : Step) (i : ℕ) → names net b ≡ node i → (step net st b).kind ≡ taken
      → starts (st i).node.phase < starts ((step net st b).state i).node.phase
  unfolding step
  wakes b i e =
      subst (λ (o : Named). (carried_out net st o).kind ≡ taken
      → starts (st i).node.phase < starts ((carried_out net st o).state i).node.phase) (sym e)
      (starting_wakes i (st i).node.phase refl)

  rises : (b : Step) → (step net st b).kind ≡ taken → come net st < come net (step net st b).state
  rises b t =
      let on = (step_ok net va st inv b).1 in
      far_on (λ i. (st i).node.phase) (λ i. ((step net st b).state i).node.phase) (λ i j. (st i).delivered j)
      (λ i j. ((step net st b).state i).delivered j)
      (λ i. (on i).node.stage_le) (λ i j. (on i).delivered_le j) net (names net b) (named net b) (λ i e. wakes b i e t)
      (λ i j e. let over = hands_over net st b i j e t in omega arith)
      (λ e. let k = (step_counts net st b).0.1 e in let z : ◌≡◌ {A = ℕ} 0 1 = cc in omega arith)

module _ (net : Net) (va : Valid net) where
  come_le : (st : State) → Inv net st → (b : Step) → come net st ≤ come net (step net st b).state
  come_le st inv b =
      let on = (step_ok net va st inv b).1 in
      far_le (λ i. (st i).node.phase) (λ i. ((step net st b).state i).node.phase) (λ i j. (st i).delivered j)
      (λ i j. ((step net st b).state i).delivered j)
      (λ i. (on i).node.stage_le) (λ i j. (on i).delivered_le j) net

  -- one step more
  taken_one : (st : State) → Inv net st → (b : Step) (n to : ℕ) → come net (step net st b).state + n ≤ to
      → (k : Kind) → (step net st b).kind ≡ k → (c : Counts) → c.taken ≡ n → come net st + (counted k c).taken ≤ to
  taken_one st inv b n to le taken e c q = omega (arith, rises net va st inv b e)
  taken_one st inv b n to le idle e c q = omega (arith, come_le st inv b)
  taken_one st inv b n to le unknown e c q = omega (arith, come_le st inv b)

  taken_far : (st : State) → Inv net st → (bs : List Step) → come net st + (counts_from net st bs).taken ≤ come net (run_from net st bs)
  unfolding counts_from run_from
  taken_far st inv [] = omega arith
  taken_far st inv (b ∷ bs) =
      let st' = (step net st b).state in
      taken_one st inv b (counts_from net st' bs).taken (come net (run_from net st' bs)) (taken_far st' (step_ok net va st inv b).0 bs)
      (step net st b).kind refl (counts_from net st' bs) refl

  pub taken_few : (bs : List Step) → (counts net bs).taken ≤ most_taken_sharp net
  unfolding counts run
  taken_few bs = omega (arith, taken_far fresh (fresh_ok net va) bs, come_few net va bs)

-- (n − 1) × LMAX + n + 2 is no more than n × LMAX + n + 1, where LMAX is 1 or more
pub sharp_le : (net : Net) → 1 ≤ net.n → 1 ≤ net.lmax → most_taken_sharp net ≤ most_taken net
sharp_le net some one =
    let row : net.n * net.lmax ≡ suc (net.n - 1) * net.lmax = ap (λ (k : ℕ). k * net.lmax) (omega arith) in
    let less : most_sent net ≤ net.n * net.lmax + net.n + 1 = omega arith in
    let all = mul-le-mul_left (length net.arcs) less in
    omega arith

pub taken_within : (net : Net) → 1 ≤ net.n → 1 ≤ net.lmax → Valid net → (bs : List Step) → (counts net bs).taken ≤ most_taken net
taken_within net some one va bs = omega (arith, taken_few net va bs, sharp_le net some one)

-- in the largest house: 257 messages over each of 240 arcs
few_handed : (net : Net) → Sizes net → net.n * net.lmax + net.n + 1 ≤ 257
few_handed net small =
    let product : net.n * net.lmax ≤ 16 * 15 = mul-le-mul small.nodes.1 small.lengths.1 in
    omega (arith, small.nodes.1)

pub at_most_61696 : (net : Net) → Sizes net → most_taken net ≤ 61696
at_most_61696 net small =
    let product : length net.arcs * (net.n * net.lmax + net.n + 1) ≤ 240 * 257 = mul-le-mul small.arcs (few_handed net small) in
    omega (arith, small.nodes.1)
