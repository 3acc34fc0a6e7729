-- What each act of a node keeps, holds of every node after any steps.
use mathlib.Core.Path.{◌≡◌, refl, sym, subst}
use mathlib.Core.Bool.{Bool, true, false, cond}
use mathlib.Core.List.{List, [], ◌∷◌}
use Prim.Native.Nat.{ℕ}
use lib.Dec.{ltb, eqb}
use lib.ListN.{length}
use borrow.Author.Tests.{ltb-true, eqb-true}
use Rattle.method.specs.Network.{Net, Valid}
use Rattle.method.specs.Rules.{Phase, unstarted, started, stopped, Node}
use Rattle.method.specs.Work.{Site, heard, work, works_on, became, begun}
use Rattle.method.specs.Steps.{State, sents, fresh, put, Step, Named, node, arc, nothing, names, taken, idle, Stepped, starting}
use Rattle.method.specs.Steps.{handed, delivering, carried_out, step, run_from, run}
use Rattle.method.specs.Invariant.{Inv}
use Rattle.method.proofs.Keeping.{Keeps}
use Rattle.method.proofs.Lawful.{Lawful}
use Rattle.method.proofs.Oldest.{labelled_oldest}
use Rattle.method.proofs.Runs.{begun_site, handed_site, true_lists, fresh_ok, step_ok, run_ok}
use Rattle.method.proofs.Steady.{Source, work_keeps, works_on_keeps}

module _ (net : Net) (va : Valid net) (P : ℕ → Node → Type 0) (keeps : Keeps net P) where
  module _ (st : State) (inv : Inv net st) (all : (j : ℕ) → P j (st j).node) where
    -- an arc's sequence is the sent list itself
    pub sources : (j : ℕ) → Source net P j (sents st j)
    sources j = record { teller = (st j).node; view = heard (sents st) (st j); ok = (inv j).site.ok; holds = all j; newer = []; is = refl }

    put_keeps : (i : ℕ) (s : Site) → P i s.node → (k : ℕ) → P k (put st i s k).node
    put_keeps i s now k = go (eqb k i) refl
      where
        go : (b : Bool) → eqb k i ≡ b → P k (cond b s (st k)).node
        go true e = subst (λ (j : ℕ). P j s.node) (sym (eqb-true k i e)) now
        go false e = all k

    starting_keeps : (i : ℕ) (ph : Phase) → (st i).node.phase ≡ ph → (k : ℕ) → P k ((starting ph net st i).state k).node
    starting_keeps i unstarted e =
        put_keeps i (work net i (sents st) (became (st i) (begun i)))
        (work_keeps net va P keeps i (sents st) (true_lists net va st inv) sources (became (st i) (begun i))
        (begun_site net st inv i e) refl (keeps.at_start i))
    starting_keeps i started e = all
    starting_keeps i stopped e = all

    delivering_keeps : (i j k : ℕ) → P k ((delivering net st i j).state k).node
    delivering_keeps i j k = go (ltb ((st i).delivered j) (length (sents st j))) refl
      where
        s : Site
        s = works_on (st i).node.phase net i (sents st) (handed (st i) j)

        go : (b : Bool) → ltb ((st i).delivered j) (length (sents st j)) ≡ b
            → P k ((cond {A = Stepped} b (record { kind = taken; state = put st i s }) (record { kind = idle; state = st })).state k).node
        go true e =
            put_keeps i s
            (works_on_keeps net va P keeps i (sents st) (true_lists net va st inv) sources (st i).node.phase (handed (st i) j) refl
            (handed_site net st inv i j (ltb-true ((st i).delivered j) (length (sents st j)) e)) (all i)) k
        go false e = all k

    carried_out_keeps : (o : Named) (k : ℕ) → P k ((carried_out net st o).state k).node
    carried_out_keeps (node i) k = starting_keeps i (st i).node.phase refl k
    carried_out_keeps (arc i j) k = delivering_keeps i j k
    carried_out_keeps nothing k = all k

    pub step_keeps : (b : Step) (k : ℕ) → P k ((step net st b).state k).node
    unfolding step
    step_keeps b k = carried_out_keeps (names net b) k

  run_from_keeps : (st : State) → Inv net st → ((j : ℕ) → P j (st j).node) → (bs : List Step) (i : ℕ) → P i (run_from net st bs i).node
  unfolding run_from
  run_from_keeps st inv all [] i = all i
  run_from_keeps st inv all (b ∷ bs) i =
      run_from_keeps (step net st b).state (step_ok net va st inv b).0 (λ j. step_keeps st inv all b j) bs i

  -- after any steps
  pub always : (bs : List Step) (i : ℕ) → P i (run net bs i).node
  unfolding run
  always bs i = run_from_keeps fresh (fresh_ok net va) (λ j. keeps.at_first j) bs i

-- so the nodes of a run are lawful
unfoldable pub run_lawful : (net : Net) → Valid net → (bs : List Step) → Lawful net (λ i. (run net bs i).node)
run_lawful net va bs =
    record {
      view = λ i. heard (sents (run net bs)) (run net bs i);
      ok = λ i. (run_ok net va bs i).site.ok;
      sent = λ i h y m. labelled_oldest y ((run net bs i).taken h) (run net bs h).node.sent m;
      keeps = λ P keeps i. always net va P keeps bs i;
    }
