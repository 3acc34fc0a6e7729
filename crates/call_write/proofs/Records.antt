-- A started node's own entry is the first that it filled: the entries after it are the records of its file.
use mathlib.Core.Path.{◌≡◌, refl, sym, ap, ap₂, subst, ◌∙◌}
use mathlib.Core.Logic.{inl, inr, ◌≢◌}
use mathlib.Core.Bool.{Bool, true, false, cond}
use mathlib.Core.List.{List, ◌∷◌}
use Prim.Native.Nat.{ℕ, zero, suc, ◌+◌, ◌-◌, ◌≤◌}
use native.Mathlib.Omega.{arith}
use lib.Dec.{eqb}
use borrow.Author.Tests.{eq-eqb, eqb-true, eqb-false}
use Rattle.method.specs.Network.{Net, Valid, Positive}
use Rattle.method.specs.Distance.{Distance}
use Rattle.method.specs.Rules.{Filled, unstarted}
use Rattle.method.specs.Steps.{State, Step, steps, Counts}
use Rattle.method.specs.Entries.{nodes, phase, has_stopped, table, others, records}
use Rattle.method.specs.Invariant.{In, Has, Paced}
use Rattle.method.proofs.Chains.{own_distance}
use Rattle.method.proofs.Table.{Once}
use Rattle.method.proofs.Always.{run_lawful}
use Rattle.method.proofs.Said.{once, filled_known}
use Rattle.method.proofs.Hops.{onto}
use Rattle.network.specs.Layout.{net_of, Laid}
use Rattle.network.specs.declared.Layout.{Layout}
use Rattle.run_cells.specs.Part.{Part, entry_count, targets_at, entry_at, table_from, state_of}
use Rattle.run.specs.Ran.{Ran}
use Rattle.run_entries.proofs.Reading.{ran_records}
use Rattle.table.specs.File.{one, file_of, header_for, node_file}
use Rattle.call_write.specs.Filing.{after_first, held_file}

-- what puts node i's own entry first: it is there once, it alone has distance 0, and distances rise
record OwnFirst (lmax i : ℕ) (es : List Filled) : Type 0 where
  there : Has i es
  once : Once es
  pace : Paced lmax es
  zero : (e : Filled) → In e es → e.target ≡ i → e.distance ≡ 0
  more : (e : Filled) → In e es → e.target ≢ i → 1 ≤ e.distance

-- of every started node
started_own_first : (net : Net) → Valid net → Positive net → (bs : List Step) (i : ℕ) → phase net bs i ≢ unstarted
    → OwnFirst net.lmax i (table net bs i)
started_own_first net va positive bs i ne =
    let ok = (run_lawful net va bs).ok i in
    record {
      there = ok.own ne;
      once = once net va (nodes net bs) (run_lawful net va bs) i;
      pace = ok.pace;
      zero = λ e m q. own_distance net.arcs i e.distance
          (subst (λ (k : ℕ). Distance net.arcs i k e.distance) q (ok.right e m).distance);
      more =
          λ e m q.
          let o = onto net va bs e.target i e.distance e.hop (filled_known net va (nodes net bs) (run_lawful net va bs) i e m) q in
          omega (arith, o.nearer, positive i e.hop o.len o.arc);
    }

not_none : (f : Part) (i k : ℕ) → Has i (table_from f k) → 1 ≤ k
not_none f i zero h = absurd h
not_none f i (suc k) h = omega arith

after_first_lem : (f : Part) (lmax i k : ℕ) → OwnFirst lmax i (table_from f (suc k)) → others i (table_from f (suc k)) ≡ after_first f k
after_first_lem f lmax i zero own = alone own.there
  where
    alone : Has i (table_from f 1) → others i (table_from f 1) ≡ after_first f 0
    alone (inl q) = rw (eq-eqb (f targets_at) i (sym q))
    alone (inr h) = absurd h
after_first_lem f lmax i (suc k) own = go (λ w. after_first_lem f lmax i k w) (eqb (f (targets_at + suc k)) i) refl own.there
  where
    es : List Filled
    es = table_from f (suc k)

    e : Filled
    e = entry_at f (suc k)

    go : (OwnFirst lmax i es → others i es ≡ after_first f k)
        → (b : Bool) → eqb e.target i ≡ b → Has i (e ∷ es) → cond b (others i es) (e ∷ others i es) ≡ after_first f (suc k)
    go ih true q h =
        let is : e.target ≡ i = eqb-true e.target i q in
        let last : (entry_at f k).target ≢ i = λ z. own.once.0 (inl (is ∙ sym z)) in
        absurd (omega (arith, own.zero e (inl refl) is, own.more (entry_at f k) (inr (inl refl)) last, own.pace.0))
    go ih false q (inl h) = absurd (eqb-false e.target i q (sym h))
    go ih false q (inr h) =
        ap (λ (r : List Filled). e ∷ r)
        (ih (record {
          there = h;
          once = own.once.1;
          pace = own.pace.2;
          zero = λ x m. own.zero x (inr m);
          more = λ x m. own.more x (inr m);
        }))

-- so after a run the part holds the file
module _ (g : Layout) (bs : List ℕ) (m : ℕ → Part) (c : Counts) (laid : Laid g) (ran : Ran g bs m c) (i : ℕ)
    (ne : phase (net_of g) (steps bs) i ≢ unstarted) where
  own_first : OwnFirst (net_of g).lmax i (table_from (m i) (m i entry_count))
  own_first =
      subst (OwnFirst (net_of g).lmax i) (ap (λ (st : State). (st i).node.table) (sym ran.state))
      (started_own_first (net_of g) laid.accepted.valid laid.accepted.positive (steps bs) i ne)

  pub some_entry : 1 ≤ m i entry_count
  some_entry = not_none (m i) i (m i entry_count) own_first.there

  after_is : after_first (m i) (m i entry_count - 1) ≡ records (net_of g) (steps bs) i
  after_is =
      let e : m i entry_count ≡ suc (m i entry_count - 1) = omega (arith, some_entry) in
      sym (after_first_lem (m i) (net_of g).lmax i (m i entry_count - 1)
      (subst (λ (k : ℕ). OwnFirst (net_of g).lmax i (table_from (m i) k)) e own_first))
      ∙ ap (λ (k : ℕ). others i (table_from (m i) k)) (sym e) ∙ ran_records g bs m c ran i

  mark_is : has_stopped (state_of m i).node.phase ≡ has_stopped (phase (net_of g) (steps bs) i)
  mark_is = ap (λ (st : State). has_stopped (st i).node.phase) ran.state

  pub held_file_lem : held_file g i (m i) ≡ node_file one (net_of g) (steps bs) i
  held_file_lem = ap₂ (file_of one (header_for (net_of g) i)) after_is mark_is
