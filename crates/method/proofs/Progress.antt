-- While a node has not stopped, some node can start or some arc has a message to deliver, however messages travel. So some step can be
-- taken: laws e and p.
use mathlib.Core.Path.{◌≡◌, refl, sym, ap, subst, ◌∙◌}
use mathlib.Core.Logic.{◌⊎◌, inl, inr}
use mathlib.Core.Bool.{Bool, true, false}
use mathlib.Core.Option.{Option, none, some}
use mathlib.Core.List.{List, [], ◌∷◌}
use Prim.Native.Nat.{ℕ, zero, suc, ◌+◌, ◌-◌, ◌≤◌, ◌<◌, zero-le, suc-le-suc}
use native.Mathlib.Omega.{arith}
use native.Mathlib.Numerals.{add-one}
use lib.Dec.{ltb}
use lib.ListN.{length, get_elem?}
use borrow.Author.Tests.{ltb-true, ltb-false, lt-ltb, le-leb, lt-leb}
use Rattle.method.specs.Network.{Arc, Net, IsNode, IsArc, Sizes, Valid}
use Rattle.method.specs.Loop.{Loopless}
use Rattle.method.specs.Message.{Msg, finite, infinite, last_len, item}
use Rattle.method.specs.Rules.{Phase, unstarted, started, stopped, Node, Choice}
use Rattle.method.specs.Work.{heard, next}
use Rattle.method.specs.Steps.{State, sents, Step, start, deliver, byte_step, taken, starting, step, run}
use Rattle.method.specs.Entries.{nodes, Stopped}
use Rattle.method.specs.Invariant.{Waiting}
use Rattle.method.proofs.Sent.{item_last_len}
use Rattle.method.proofs.Choosing.{rule₁_ok}
use Rattle.method.proofs.View.{Chooses}
use Rattle.method.proofs.Oldest.{oldest_all, next_none}
use Rattle.method.proofs.Runs.{run_ok}
use Rattle.method.proofs.Lawful.{Lawful}
use Rattle.method.proofs.Always.{run_lawful}
use Rattle.method.proofs.Descent.{descend}

-- nodes at rest; `more i j` is the next message of the arc (i,j), if any, and its tail has heard all once there is none and nothing is
-- undelivered
module _ (net : Net) (va : Valid net) (nd : ℕ → Node) (lawful : Lawful net nd) (more : ℕ → ℕ → Option Msg)
    (waits : (i : ℕ) → (nd i).phase ≡ started → Waiting net i (lawful.view i) (more i) (nd i)) where
  -- where all is started and heard, no node waits
  module _ (all : (i j l : ℕ) → IsArc net.arcs i j l → (nd j).phase ≡ unstarted → ⊥)
      (whole : (i j l : ℕ) → IsArc net.arcs i j l → more i j ≡ none → item (lawful.view i j) ≡ item (nd j).sent) where
    -- who waits, waits for one that waits
    waits_on : (i : ℕ) → Waiting net i (lawful.view i) (more i) (nd i)
        → ((j l : ℕ) → IsArc net.arcs i j l → last_len (nd i).sent ≡ l + last_len (nd j).sent → (nd j).phase ≡ started → ⊥) → ⊥
    waits_on i w ih = by (nd j).phase refl
      where
        j : ℕ
        j = w.choice.head

        chosen : Chooses net i (lawful.view i) (some w.choice)
        chosen =
            subst (λ (o : Option Choice). Chooses net i (lawful.view i) o) w.chosen
            (rule₁_ok net.rank (λ h. item (lawful.view i h)) i net.arcs)

        l : ℕ
        l = chosen.0.len

        v : ℕ
        v = chosen.0.now

        a : IsArc net.arcs i j l
        a = chosen.0.arc

        now : item (nd j).sent ≡ finite v
        now = sym (whole i j l a w.dry) ∙ chosen.0.item_is

        by : (ph : Phase) → (nd j).phase ≡ ph → ⊥
        by unstarted e = all i j l a e
        by started e =
            let q : last_len (nd j).sent ≡ v = item_last_len (nd j).sent v now in
            ih j l a (omega (arith, w.sent, chosen.0.sum_is)) e
        by stopped e =
            let sh = (lawful.ok j).shut e in
            let q : item (nd j).sent ≡ infinite = ap item sh.1 in
            let z : ◌≡◌ {A = ℕ} 0 1 = cc (now, q) in
            omega arith

    none_waits : Loopless net → (i : ℕ) → (nd i).phase ≡ started → ⊥
    none_waits loopless i up = descend net va loopless P back i (last_len (nd i).sent) up refl
      where
        P : ℕ → ℕ → Type 0
        P i x = (nd i).phase ≡ started → last_len (nd i).sent ≡ x → ⊥

        back : (i x : ℕ) → ((j l y : ℕ) → IsArc net.arcs i j l → x ≡ l + y → P j y) → P i x
        back i x ih up q = waits_on i (waits i up) (λ j l a e u. ih j l (last_len (nd j).sent) a (sym q ∙ e) u refl)

-- some node up to k has not started, or none
abbrev pub Sleeper : (ℕ → Node) → ℕ → Type 0
Sleeper nd k = (b : ℕ) × (b < k) × ((nd (suc b)).phase ≡ unstarted)

sleepers : (nd : ℕ → Node) (k : ℕ) → Sleeper nd k ⊎ ((b : ℕ) → b < k → (nd (suc b)).phase ≡ unstarted → ⊥)
sleepers nd zero = inr (λ b lt e. omega arith)
sleepers nd (suc k) = go (nd (suc k)).phase refl (sleepers nd k)
  where
    upto : ((nd (suc k)).phase ≡ unstarted → ⊥) → ((b : ℕ) → b < k → (nd (suc b)).phase ≡ unstarted → ⊥)
        → (b : ℕ) → b < suc k → (nd (suc b)).phase ≡ unstarted → ⊥
    upto top f b lt e = by (ltb b k) refl
      where
        by : (t : Bool) → ltb b k ≡ t → ⊥
        by true q = f b (ltb-true b k q) e
        by false q = let w : b ≡ k = omega (arith, ltb-false b k q) in top (ap (λ (m : ℕ). (nd (suc m)).phase) (sym w) ∙ e)

    go : (ph : Phase) → (nd (suc k)).phase ≡ ph → Sleeper nd k ⊎ ((b : ℕ) → b < k → (nd (suc b)).phase ≡ unstarted → ⊥)
        → Sleeper nd (suc k) ⊎ ((b : ℕ) → b < suc k → (nd (suc b)).phase ≡ unstarted → ⊥)
    go ph e (inl r) = inl (r.0, omega arith, r.2)
    go unstarted e (inr f) = inl (k, omega arith, e)
    go started e (inr f) = inr (upto (λ q. let z : ◌≡◌ {A = ℕ} 0 1 = cc in omega arith) f)
    go stopped e (inr f) = inr (upto (λ q. let z : ◌≡◌ {A = ℕ} 0 1 = cc in omega arith) f)

-- some arc passes the test of having an undelivered message, or none
pub record Ready (test : ℕ → ℕ → Bool) (ar : List Arc) : Type 0 where
  pub at : ℕ
  pub arc : Arc
  pub low : at < length ar
  pub is : get_elem? ar at ≡ some arc
  pub passes : test arc.tail arc.head ≡ true

ready : (test : ℕ → ℕ → Bool) (ar : List Arc) → Ready test ar ⊎ ((i j l : ℕ) → IsArc ar i j l → test i j ≡ false)
ready test [] = inr (λ i j l m. absurd m)
ready test (a ∷ ar) = go (test a.tail a.head) refl (ready test ar)
  where
    go : (b : Bool) → test a.tail a.head ≡ b → Ready test ar ⊎ ((i j l : ℕ) → IsArc ar i j l → test i j ≡ false)
        → Ready test (a ∷ ar) ⊎ ((i j l : ℕ) → IsArc (a ∷ ar) i j l → test i j ≡ false)
    go true e r = inl (record { at = 0; arc = a; low = suc-le-suc zero-le; is = refl; passes = e })
    go false e (inl r) = inl (record { at = suc r.at; arc = r.arc; low = suc-le-suc r.low; is = r.is; passes = r.passes })
    go false e (inr f) = inr each
      where
        each : (i j l : ℕ) → IsArc (a ∷ ar) i j l → test i j ≡ false
        each i j l (inl q) = subst (λ (n : ℕ). test n j ≡ false) q.0 (subst (λ (n : ℕ). test a.tail n ≡ false) q.1 e)
        each i j l (inr m) = f i j l m

-- so there is a way on
module _ (net : Net) (va : Valid net) (loopless : Loopless net) (nd : ℕ → Node) (lawful : Lawful net nd) (more : ℕ → ℕ → Option Msg)
    (waits : (i : ℕ) → (nd i).phase ≡ started → Waiting net i (lawful.view i) (more i) (nd i)) (test : ℕ → ℕ → Bool)
    (whole : (i j l : ℕ) → IsArc net.arcs i j l → test i j ≡ false → more i j ≡ none → item (lawful.view i j) ≡ item (nd j).sent) where
  pub way_on : (i : ℕ) → IsNode net.n i → ((nd i).phase ≡ stopped → ⊥) → Sleeper nd net.n ⊎ Ready test net.arcs
  way_on i at ne = go (sleepers nd net.n) (ready test net.arcs)
    where
      go : Sleeper nd net.n ⊎ ((b : ℕ) → b < net.n → (nd (suc b)).phase ≡ unstarted → ⊥)
          → Ready test net.arcs ⊎ ((i j l : ℕ) → IsArc net.arcs i j l → test i j ≡ false)
          → Sleeper nd net.n ⊎ Ready test net.arcs
      go (inl s) r = inl s
      go (inr s) (inl r) = inr r
      go (inr s) (inr r) = absurd (by (nd i).phase refl)
        where
          woken : (j : ℕ) → IsNode net.n j → (nd j).phase ≡ unstarted → ⊥
          woken zero w e = omega arith
          woken (suc b) w e = s b w.1 e

          by : (ph : Phase) → (nd i).phase ≡ ph → ⊥
          by unstarted e = woken i at e
          by started e =
              none_waits net va nd lawful more waits (λ i j l a. woken j (va.heads i j l a)) (λ i j l a. whole i j l a (r i j l a))
              loopless i e
          by stopped e = ne e

-- 01's steps
module _ (net : Net) (st : State) where
  -- the arc (i,j) has something undelivered
  abbrev undelivered : ℕ → ℕ → Bool
  undelivered i j = ltb ((st i).delivered j) (length (sents st j))

  starting_taken : (i : ℕ) (ph : Phase) → ph ≡ unstarted → (starting ph net st i).kind ≡ taken
  starting_taken i unstarted e = refl
  starting_taken i started e = let z : ◌≡◌ {A = ℕ} 0 1 = cc in absurd (omega arith)
  starting_taken i stopped e = let z : ◌≡◌ {A = ℕ} 0 1 = cc in absurd (omega arith)

  start_taken : (b : ℕ) → b < net.n → (st (suc b)).node.phase ≡ unstarted → (step net st (start (suc b))).kind ≡ taken
  unfolding step
  start_taken b lt e = rw (lt-ltb b net.n lt) (starting_taken (suc b) (st (suc b)).node.phase e)

  deliver_taken : (r : Ready undelivered net.arcs) → (step net st (deliver (suc r.at))).kind ≡ taken
  unfolding step
  deliver_taken r = rw (r.is, r.passes)

-- the byte of a step
start_byte : (b : ℕ) → b ≤ 15 → byte_step b ≡ start (suc b)
start_byte b le = rw (le-leb b 15 le) (ap start (add-one b))

deliver_byte : (k : ℕ) → byte_step (16 + k) ≡ deliver (suc k)
deliver_byte k =
    let e : 16 + k - 15 ≡ suc k = omega arith in
    rw (lt-leb (16 + k) 15 (omega arith)) (ap deliver e)

on : (net : Net) → Valid net → Loopless net → (bs : List Step) (i : ℕ) → IsNode net.n i → (Stopped net bs i → ⊥)
    → Sleeper (nodes net bs) net.n ⊎ Ready (undelivered net (run net bs)) net.arcs
unfolding run_lawful
on net va loopless bs i at ne =
    way_on net va loopless (nodes net bs) (run_lawful net va bs) (λ i. next (sents (run net bs)) (run net bs i))
    (λ i. (run_ok net va bs i).waits)
    (undelivered net (run net bs)) whole i at ne
  where
    -- all is delivered and taken
    whole : (i j l : ℕ) → IsArc net.arcs i j l → undelivered net (run net bs) i j ≡ false
        → next (sents (run net bs)) (run net bs i) j ≡ none
        → item (heard (sents (run net bs)) (run net bs i) j) ≡ item (sents (run net bs) j)
    whole i j l a e dry =
        let sk = (run_ok net va bs i).site in
        let q : (run net bs i).taken j ≡ length (sents (run net bs) j) =
        omega (
          arith,
          ltb-false ((run net bs i).delivered j) (length (sents (run net bs) j)) e,
          next_none (sents (run net bs))
              (run net bs i) j dry,
          sk.taken_le j,
          sk.delivered_le j,
        ) in
        ap item (oldest_all ((run net bs i).taken j) (sents (run net bs) j) q)

pub some_value : (net : Net) → Valid net → Loopless net → (bs : List Step) (i : ℕ) → IsNode net.n i → (Stopped net bs i → ⊥)
    → (b : Step) × ((step net (run net bs) b).kind ≡ taken)
some_value net va loopless bs i at ne = go (on net va loopless bs i at ne)
  where
    go : Sleeper (nodes net bs) net.n ⊎ Ready (undelivered net (run net bs)) net.arcs
        → (b : Step) × ((step net (run net bs) b).kind ≡ taken)
    go (inl s) = (start (suc s.0), start_taken net (run net bs) s.0 s.1 s.2)
    go (inr r) = (deliver (suc r.at), deliver_taken net (run net bs) r)

pub some_step : (net : Net) → Sizes net → Valid net → Loopless net → (bs : List Step) (i : ℕ) → IsNode net.n i → (Stopped net bs i → ⊥)
    → (b : ℕ) × (b ≤ 255) × ((step net (run net bs) (byte_step b)).kind ≡ taken)
some_step net small va loopless bs i at ne = go (on net va loopless bs i at ne)
  where
    moves : (b : ℕ) (s : Step) → byte_step b ≡ s → (step net (run net bs) s).kind ≡ taken
        → (step net (run net bs) (byte_step b)).kind ≡ taken
    moves b s e q = ap (λ (t : Step). (step net (run net bs) t).kind) e ∙ q

    go : Sleeper (nodes net bs) net.n ⊎ Ready (undelivered net (run net bs)) net.arcs
        → (b : ℕ) × (b ≤ 255) × ((step net (run net bs) (byte_step b)).kind ≡ taken)
    go (inl s) =
        let le : s.0 ≤ 15 = omega (arith, s.1, small.nodes.1) in
        (s.0, omega arith, moves s.0 (start (suc s.0)) (start_byte s.0 le) (start_taken net (run net bs) s.0 s.1 s.2))
    go (inr r) = (
      16 + r.at,
      omega (arith, r.low, small.arcs),
      moves (16 + r.at) (deliver (suc r.at)) (deliver_byte r.at)
          (deliver_taken net (run net bs) r),
    )
