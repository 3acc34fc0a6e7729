-- What the two loops of a node's work keep: the work from here on is the work from where the loop began.
use mathlib.Core.Path.{◌≡◌, refl, sym, ap, ap₂, subst, ◌∙◌}
use mathlib.Core.Logic.{◌≢◌}
use mathlib.Core.List.{List}
use Prim.Native.Nat.{ℕ, ◌+◌, ◌-◌, ◌≤◌, ◌<◌}
use native.Mathlib.Nat.{le_refl}
use native.Mathlib.Omega.{arith}
use lib.ListN.{get_or}
use Rattle.method.specs.Message.{Msg, item}
use Rattle.method.specs.Rules.{Choice, stop, Go, to₁, to₃}
use Rattle.method.specs.Work.{heard, untaken, work}
use Rattle.method.proofs.Again.{Held}
use Rattle.method.proofs.Enough.{work_rests}
use Rattle.network.specs.declared.Layout.{Layout}
use Rattle.network.specs.declared.Network.{Network}
use Rattle.network.proofs.Laws.{laid}
use Rattle.network.specs.Layout.{net_of, Laid}
use Rattle.run_cells.specs.declared.State.{State}
use Rattle.run_cells.specs.Part.{Part, table_size, lp_at, node_of, site_of, cells}
use Rattle.run_cells.proofs.Loads.{lp_is}
use Rattle.run_cells.proofs.Stored.{blank, Placed, own_part}
use Rattle.run_cells.specs.Stores.{Stored, stopped_part}
use Rattle.run_cells.proofs.MessageStores.{stopped_phase, stop_site}
use Rattle.run_cells.proofs.Caching.{stop_caches}
use Rattle.run_node.specs.declared.Heard.{Heard}
use Rattle.run_node.specs.declared.Heard.TheVariants.{Nothing, Label, Length}
use Rattle.run_node.specs.Rules.{IsChoice, takes, took_of, Able}
use Rattle.run_node.specs.Working.{Ready, Working, Did, Worked}
use Rattle.run_node.proofs.Limits.{i_node, table_low}
use Rattle.run_node.proofs.Choice.{stops, holds}
use Rattle.run_node.proofs.Taking.{able}
use Rattle.run_node.proofs.Taken.{GoesOn, Went, takes_went}

-- what node i has yet to take
abbrev pub left : Layout → (ℕ → Part) → ℕ → ℕ
left g m i = untaken (net_of g).arcs (site_of (m i))

-- node i, at work, goes on from m to n; it is then at rule 1 or at rule 3
pub record Going (g : Layout) (i : ℕ) (go : Go) (m n : ℕ → Part) : Type 0 where
  pub there : (j : ℕ) → j ≢ i → n j ≡ m j
  pub ready : (ss : ℕ → List Msg) → Ready g ss m i → Ready g ss n i
  pub held : (ss : ℕ → List Msg) → Ready g ss m i → Held (net_of g) i (λ k. item (heard ss (site_of (n i)) k)) go (node_of (n i))
  pub same : (ss : ℕ → List Msg) → Ready g ss m i → work (net_of g) i ss (site_of (n i)) ≡ work (net_of g) i ss (site_of (m i))
  pub less : (ss : ℕ → List Msg) → Ready g ss m i → left g n i ≤ left g m i

abbrev pub pick : ℕ → ℕ → Choice
pick x h = record { sum = x; head = h }

pub going_refl : (g : Layout) (i : ℕ) (m : ℕ → Part) → Going g i to₁ m m
going_refl g i m =
    record { there = λ j ne. refl; ready = λ ss rd. rd; held = λ ss rd. tt; same = λ ss rd. refl; less = λ ss rd. le_refl (left g m i) }

pub going_trans : {g : Layout} {i : ℕ} {go go' : Go} {a b c : ℕ → Part} → Going g i go a b → Going g i go' b c → Going g i go' a c
going_trans p q =
    record {
      there = λ j ne. q.there j ne ∙ p.there j ne;
      ready = λ ss rd. q.ready ss (p.ready ss rd);
      held = λ ss rd. q.held ss (p.ready ss rd);
      same = λ ss rd. q.same ss (p.ready ss rd) ∙ p.same ss rd;
      less = λ ss rd. omega (arith, p.less ss rd, q.less ss (p.ready ss rd));
    }

pub going_worked : {g : Layout} {i : ℕ} {go : Go} {a b c : ℕ → Part} → Going g i go a b → Worked g b i c → Worked g a i c
going_worked p q =
    record {
      there = λ j ne. q.there j ne ∙ p.there j ne;
      does =
          λ ss rd.
          let d = q.does ss (p.ready ss rd) in
          record { site = d.site ∙ p.same ss rd; caches = d.caches; waits = d.waits };
    }

pub going_working : {g : Layout} {i : ℕ} {go : Go} {a b : ℕ → Part} → Going g i go a b → Working g a i → Working g b i
going_working p w = (w.0, p.ready w.0 w.1)

-- a node at work is one of the house, and its part has a place
pub number_low : (net : Network) {m : ℕ → Part} {i : ℕ} → Working net.layout m i → (1 ≤ i) × (i < table_size)
number_low net {m} {i} w = i_node net.layout (laid net) w.0 m i w.1

-- the LP of its part
pub lp_of : (s : State) (i : ℕ) → 1 ≤ i → Placed s i → (get_or s.parts (i - 1) blank).lp ≡ cells s i lp_at
lp_of s i pos le = sym (ap (λ (f : Part). f lp_at) (own_part s i blank pos le) ∙ lp_is (get_or s.parts (i - 1) blank))

module _ (g : Layout) (la : Laid g) (i : ℕ) where
  -- rules 1 and 2
  module _ (m : ℕ → Part) (x h lp lmax : ℕ) (is : IsChoice (m i) x h) (el : lp ≡ m i lp_at) (em : lmax ≡ g.lmax) where
    pub chosen : x ≤ lp + lmax → Going g i (to₃ (pick x h)) m m
    chosen le =
        record {
          there = λ j ne. refl;
          ready = λ ss rd. rd;
          held =
              λ ss rd.
              subst (λ (p : Choice). Held (net_of g) i (λ k. item (heard ss (site_of (m i)) k)) (to₃ p) (node_of (m i)))
              (sym (ap₂ pick is.0 is.1)) (holds g la ss m i rd (omega arith));
          same = λ ss rd. refl;
          less = λ ss rd. le_refl (left g m i);
        }

    pub stopped_there : (n : ℕ → Part) → lp + lmax < x → Stored m i (stopped_part (m i)) n → Worked g m i n
    stopped_there n lt st = record {
      there = st.there;
      does = λ ss rd. subst (λ (f : Part). Did g ss i (m i) f) (sym st.here) (done ss rd);
    }
      where
        done : (ss : ℕ → List Msg) → Ready g ss m i → Did g ss i (m i) (stopped_part (m i))
        done ss rd =
            record {
              site =
                  stop_site (m i) (table_low g la ss m i rd)
                  ∙ sym (work_rests (net_of g) i ss (site_of (m i)) (stop (node_of (m i))) (stops g la ss m i rd (omega arith)));
              caches = stop_caches g i ss (m i) (table_low g la ss m i rd) rd.caches;
              waits = λ up. absurd (omega (arith, stopped_phase (m i)));
            }

  -- rules 3 and 4
  module _ (m₀ m : ℕ → Part) (x h : ℕ) (go : Going g i (to₃ (pick x h)) m₀ m) where
    pub able_there : Working g m₀ i → Able m i h x
    able_there w = able g la w.0 m i (go.ready w.0 w.1) x h (go.held w.0 w.1)

    module _ (n : ℕ → Part) (r : Heard) (took : Stored m i (takes m i h x) n × (r ≡ took_of m i h)) where
      went : (ss : ℕ → List Msg) → Ready g ss m₀ i → Went g ss i (pick x h) m n r
      went ss rd =
          subst (λ (a : Heard). Went g ss i (pick x h) m n a) (sym took.1)
          (takes_went g la ss m n i (go.ready ss rd) x h (go.held ss rd) took.0)

      -- the work is done
      pub waited_there : r ≡ Nothing → Worked g m₀ i n
      waited_there e =
          record {
            there = λ j ne. took.0.there j ne ∙ go.there j ne;
            does =
                λ ss rd.
                let d : Did g ss i (m i) (n i) = subst (λ (a : Heard). Went g ss i (pick x h) m n a) e (went ss rd) in
                record { site = d.site ∙ go.same ss rd; caches = d.caches; waits = d.waits };
          }

      went_on : (on : Go) → ((ss : ℕ → List Msg) → Ready g ss m₀ i → GoesOn g ss i m n on) → Going g i on m₀ n
      went_on on w =
          record {
            there = λ j ne. took.0.there j ne ∙ go.there j ne;
            ready = λ ss rd. (w ss rd).0;
            held = λ ss rd. (w ss rd).1;
            same = λ ss rd. (w ss rd).2 ∙ go.same ss rd;
            less = λ ss rd. omega (arith, (w ss rd).3, go.less ss rd);
          }

      labelled : r ≡ Label → (ss : ℕ → List Msg) → Ready g ss m₀ i → GoesOn g ss i m n (to₃ (pick x h))
      labelled e ss rd = subst (λ (a : Heard). Went g ss i (pick x h) m n a) e (went ss rd)

      lengthened : r ≡ Length → (ss : ℕ → List Msg) → Ready g ss m₀ i → GoesOn g ss i m n to₁
      lengthened e ss rd = subst (λ (a : Heard). Went g ss i (pick x h) m n a) e (went ss rd)

      pub again₃ : r ≡ Label → Working g m₀ i → Going g i (to₃ (pick x h)) m₀ n × (left g n i < left g m i)
      again₃ e w = (went_on (to₃ (pick x h)) (labelled e), (labelled e w.0 w.1).3)

      pub again₁ : r ≡ Length → Working g m₀ i → Going g i to₁ m₀ n × (left g n i < left g m₀ i)
      again₁ e w = (went_on to₁ (lengthened e), omega (arith, (lengthened e w.0 w.1).3, go.less w.0 w.1))
