-- Starting a node and delivering on an arc, as the code does it, are the method's.
use mathlib.Core.Path.{◌≡◌, refl, sym, ap, subst, ◌∙◌}
use mathlib.Core.Logic.{◌≢◌}
use mathlib.Core.Bool.{Bool, true, false, cond}
use mathlib.Core.List.{List}
use Prim.Native.Nat.{ℕ, ◌+◌, ◌≤◌, ◌<◌}
use native.Mathlib.Omega.{arith}
use lib.Dec.{ltb, eqb}
use lib.ListN.{length}
use borrow.Author.Tests.{lt-ltb, le-ltb, eqb-true, eqb-false, ne_eqb}
use Rattle.method.specs.Network.{IsNode}
use Rattle.method.specs.Message.{Msg}
use Rattle.method.specs.Rules.{Phase, unstarted, started, stopped, Choice}
use Rattle.method.specs.Work.{Site, became, work, works_on, begun}
use Rattle.method.specs.Steps.{sents, put, Kind, taken, idle, Stepped, starting, handed, delivering}
use Rattle.method.specs.Invariant.{SiteOk, Spread}
use Rattle.method.proofs.Working.{work_ok}
use Rattle.method.proofs.Runs.{begun_site, handed_site}
use Rattle.method.proofs.Tight.{spread}
use Rattle.network.specs.declared.Layout.{Layout}
use Rattle.network.specs.Layout.{net_of, Laid}
use Rattle.run_cells.specs.Part.{Part, table_size, phase_at, sent_count, entry_count, waits_at, delivered_at, sums_at, phase_named}
use Rattle.run_cells.specs.Part.{site_of, state_of}
use Rattle.run_cells.specs.Stores.{Stored, raised, begun_part}
use Rattle.run_cells.specs.Caches.{Caches}
use Rattle.run_cells.proofs.Lists.{sent_length, table_length, row_at}
use Rattle.run_cells.proofs.Stored.{at}
use Rattle.run_cells.proofs.Meaning.{counted_else, delivered_site}
use Rattle.run_cells.proofs.EntryStores.{begin_site}
use Rattle.run_cells.proofs.Caching.{begin_caches, hand_caches}
use Rattle.run_node.specs.Rules.{least, IsChoice}
use Rattle.run_node.specs.Working.{Working, WaitsFor, Worked}
use Rattle.run_node.proofs.Least.{least_same, least_at}
use Rattle.run.specs.Resting.{Resting, Acted}
use Rattle.run.proofs.Rested.{put_state, table_low, i_node, ready, still}

module _ (g : Layout) (la : Laid g) (m : ℕ → Part) (re : Resting g m) (i : ℕ) (node : IsNode g.nodes i) where
  abbrev ss : ℕ → List Msg
  ss = sents (state_of m)

  -- nothing has changed
  pub unchanged : (k : Kind) (w : Stepped) → k ≡ w.kind → state_of m ≡ w.state → Acted g m i m k w
  unchanged k w ek es =
      record {
        kind = ek;
        state = es;
        there = λ j ne. refl;
        taken_le = λ h. omega (arith, (re.inv i).site.taken_le h, (re.inv i).site.delivered_le h);
        caches = re.caches i (i_node g la m re i node);
        waits = re.waits i;
      }

  -- node i's part has become f, that of the site s, and node i has worked on from there
  module _ (m₁ : ℕ → Part) (f : Part) (st : Stored m i f m₁) (s : Site) (is : site_of f ≡ s) (ok : SiteOk (net_of g) i ss s)
      (up : s.node.phase ≡ started)
      (spreads : Spread (net_of g) i s.node) (caches : Caches g i ss f) where
    pub working : Working g m₁ i
    working = (ss, ready g la m re i node m₁ f st s is ok up spreads caches)

    pub worked : (n : ℕ → Part) → Worked g m₁ i n
        → Acted g m i n taken (record { kind = taken; state = put (state_of m) i (work (net_of g) i ss s) })
    unfolding working
    worked n w =
        let d = w.does ss working.1 in
        let there : (j : ℕ) → j ≢ i → n j ≡ m j = λ j ne. w.there j ne ∙ st.there j ne in
        let e : site_of (n i) ≡ work (net_of g) i ss s = d.site ∙ ap (work (net_of g) i ss) (ap site_of st.here ∙ is) in
        let k = work_ok (net_of g) la.accepted.valid i ss (λ j. (re.inv j).site.ok.good) s ok up in
        record {
          kind = refl;
          state = put_state m n i there (work (net_of g) i ss s) e;
          there = there;
          taken_le = λ h. omega (arith, ap (λ (x : Site). x.taken h) e, k.ok.taken_le h, k.ok.delivered_le h);
          caches = d.caches;
          waits = d.waits;
        }

  -- "A step for a node already started"
  pub started_already : m i phase_at ≢ 0 → Acted g m i m idle (starting (phase_named (m i phase_at)) (net_of g) (state_of m) i)
  started_already ne = subst
      (λ (b : Bool). Acted g m i m idle
      (starting (cond b unstarted (cond (eqb (m i phase_at) 1) started stopped)) (net_of g) (state_of m) i))
      (sym (ne_eqb (m i phase_at) 0 ne)) (go (eqb (m i phase_at) 1))
    where
      go : (b : Bool) → Acted g m i m idle (starting (cond b started stopped) (net_of g) (state_of m) i)
      go true = unchanged idle (record { kind = idle; state = state_of m }) refl refl
      go false = unchanged idle (record { kind = idle; state = state_of m }) refl refl

  module _ (z : m i phase_at ≡ 0) where
    asleep : phase_named (m i phase_at) ≡ unstarted
    asleep = ap phase_named z

    pub blank_sent : m i sent_count ≡ 0
    blank_sent = sym (sent_length (m i) (m i sent_count)) ∙ ap length ((re.inv i).site.ok.blank asleep).0

    pub blank_table : m i entry_count ≡ 0
    blank_table = sym (table_length (m i) (m i entry_count)) ∙ ap length ((re.inv i).site.ok.blank asleep).1

    module _ (m₁ : ℕ → Part) (st : Stored m i (begun_part (m i) i) m₁) where
      begun_is : site_of (begun_part (m i) i) ≡ became (site_of (m i)) (begun i)
      begun_is = begin_site (m i) i blank_sent blank_table node.0 (omega (arith, la.accepted.sizes.nodes.1))

      begun_caches : Caches g i ss (begun_part (m i) i)
      begun_caches = begin_caches g i ss (m i) i blank_table (omega (arith, la.accepted.sizes.nodes.1))
          (re.caches i (i_node g la m re i node))

      pub start_working : Working g m₁ i
      start_working =
          working m₁ (begun_part (m i) i) st (became (site_of (m i)) (begun i)) begun_is
          (begun_site (net_of g) (state_of m) re.inv i asleep) refl ((spread (net_of g) la.accepted.valid).at_start i) begun_caches

      pub started_now : (n : ℕ → Part) → Worked g m₁ i n
          → Acted g m i n taken (starting (phase_named (m i phase_at)) (net_of g) (state_of m) i)
      started_now n w =
          subst (λ (ph : Phase). Acted g m i n taken (starting ph (net_of g) (state_of m) i)) (sym asleep)
          (worked m₁ (begun_part (m i) i) st (became (site_of (m i)) (begun i)) begun_is
          (begun_site (net_of g) (state_of m) re.inv i asleep) refl ((spread (net_of g) la.accepted.valid).at_start i) begun_caches
          n w)

  -- a delivery on the arc to h
  module _ (h : ℕ) (head : IsNode g.nodes h) where
    abbrev Delivers : (ℕ → Part) → Kind → Type 0
    Delivers n k = Acted g m i n k (delivering (net_of g) (state_of m) i h)

    h_low : h < table_size
    h_low = omega (arith, la.accepted.sizes.nodes.1)

    test : ltb ((site_of (m i)).delivered h) (length (ss h)) ≡ ltb (m i (delivered_at + h)) (m h sent_count)
    test = rw (row_at (m i) delivered_at h h_low, sent_length (m h) (m h sent_count))

    -- "an arc with nothing undelivered"
    pub nothing_there : m h sent_count ≤ m i (delivered_at + h) → Delivers m idle
    nothing_there le =
        subst (λ (b : Bool). Acted g m i m idle
        (cond b (record {
          kind = taken;
          state = put (state_of m) i (works_on (phase_named (m i phase_at)) (net_of g) i ss (handed (site_of (m i)) h));
        })
        (record { kind = idle; state = state_of m })))
        (sym (test ∙ le-ltb (m i (delivered_at + h)) (m h sent_count) le))
        (unchanged idle (record { kind = idle; state = state_of m }) refl refl)

    module _ (lt : m i (delivered_at + h) < m h sent_count) (m₁ : ℕ → Part) (st : Stored m i (raised (m i) (delivered_at + h)) m₁) where
      handed_is : site_of (raised (m i) (delivered_at + h)) ≡ handed (site_of (m i)) h
      handed_is = delivered_site (m i) h h_low

      ok : SiteOk (net_of g) i ss (handed (site_of (m i)) h)
      ok = handed_site (net_of g) (state_of m) re.inv i h
          (omega (arith, row_at (m i) delivered_at h h_low, sent_length (m h) (m h sent_count)))

      handed_caches : Caches g i ss (raised (m i) (delivered_at + h))
      handed_caches = hand_caches g i ss (m i) h h_low (table_low g la m re i node) (re.caches i (i_node g la m re i node))

      -- what delivering comes to
      delivers : (n : ℕ → Part)
          → Acted g m i n taken (record {
            kind = taken;
            state = put (state_of m) i (works_on (phase_named (m i phase_at)) (net_of g) i ss (handed (site_of (m i)) h));
          }) → Delivers n taken
      delivers n a =
          subst (λ (b : Bool). Acted g m i n taken
          (cond b (record {
            kind = taken;
            state = put (state_of m) i (works_on (phase_named (m i phase_at)) (net_of g) i ss (handed (site_of (m i)) h));
          })
          (record { kind = idle; state = state_of m })))
          (sym (test ∙ lt-ltb (m i (delivered_at + h)) (m h sent_count) lt)) a

      pub same_place : (o : ℕ) → o < delivered_at → m₁ i o ≡ m i o
      same_place o l = at st o ∙ counted_else (m i) (delivered_at + h) o (omega arith)

      waits_same : WaitsFor (m₁ i)
      waits_same up =
          same_place waits_at (omega arith) ∙ re.waits i (sym (same_place phase_at (omega arith)) ∙ up)
          ∙ sym (ap (λ (c : Choice). c.head)
          (least_same (m i) (m₁ i) 16
          (λ k l. at st (sums_at + k) ∙ counted_else (m i) (delivered_at + h) (sums_at + k) (omega (arith, h_low)))))

      -- the message is kept, and nothing else happens
      kept_there : works_on (phase_named (m i phase_at)) (net_of g) i ss (handed (site_of (m i)) h) ≡ handed (site_of (m i)) h
          → Delivers m₁ taken
      kept_there e =
          let is : site_of (m₁ i) ≡ handed (site_of (m i)) h = ap site_of st.here ∙ handed_is in
          delivers m₁
          (record {
            kind = refl;
            state = put_state m m₁ i st.there (works_on (phase_named (m i phase_at)) (net_of g) i ss (handed (site_of (m i)) h))
                (is ∙ sym e);
            there = st.there;
            taken_le = λ k. omega (arith, ap (λ (x : Site). x.taken k) is, (re.inv i).site.taken_le k, (re.inv i).site.delivered_le k);
            caches = subst (λ (p : Part). Caches g i ss p) (sym st.here) handed_caches;
            waits = waits_same;
          })

      -- "At an unstarted node the message is kept; at a stopped node nothing else happens"
      pub no_work : m i phase_at ≢ 1 → Delivers m₁ taken
      no_work ne = kept_there (go (eqb (m i phase_at) 0) (eqb (m i phase_at) 1) (λ q. ne (eqb-true (m i phase_at) 1 q)))
        where
          go : (a b : Bool) → (b ≡ true → ⊥) → works_on (cond a unstarted (cond b started stopped)) (net_of g) i ss
              (handed (site_of (m i)) h) ≡ handed (site_of (m i)) h
          go true b f = refl
          go false true f = absurd (f refl)
          go false false f = refl

      module _ (up : m i phase_at ≡ 1) where
        awake : phase_named (m i phase_at) ≡ started
        awake = ap phase_named up

        waits_on : m i waits_at ≢ h → Delivers m₁ taken
        waits_on ne =
            kept_there (ap (λ (ph : Phase). works_on ph (net_of g) i ss (handed (site_of (m i)) h)) awake
            ∙ still g la m re i node awake h (λ q. ne (re.waits i up ∙ q)))

        pub delivery_working : Working g m₁ i
        delivery_working = working m₁ (raised (m i) (delivered_at + h)) st (handed (site_of (m i)) h) handed_is ok awake
            (re.spread i) handed_caches

        -- the arc that it waits for is the one that rule 1 chooses
        pub chosen_again : m i waits_at ≡ h → (x : ℕ) → x ≡ m₁ i (sums_at + h) → IsChoice (m₁ i) x h
        chosen_again w x e =
            let eh : h ≡ (least (m₁ i) 16).head = sym w ∙ sym (same_place waits_at (omega arith))
            ∙ waits_same (same_place phase_at (omega arith) ∙ up) in
            (e ∙ ap (λ (k : ℕ). m₁ i (sums_at + k)) eh ∙ sym (least_at (m₁ i) 16 (omega (arith, eh, head.0))), eh)

        pub works_on_lem : (n : ℕ → Part) → Worked g m₁ i n → Delivers n taken
        works_on_lem n w =
            delivers n (subst (λ (ph : Phase). Acted g m i n taken
            (record { kind = taken; state = put (state_of m) i (works_on ph (net_of g) i ss (handed (site_of (m i)) h)) })) (sym awake)
            (worked m₁ (raised (m i) (delivered_at + h)) st (handed (site_of (m i)) h) handed_is ok awake (re.spread i) handed_caches n w))

      pub waits_elsewhere : m i waits_at ≢ h → Delivers m₁ taken
      waits_elsewhere ne = go (eqb (m i phase_at) 1) refl
        where
          go : (b : Bool) → eqb (m i phase_at) 1 ≡ b → Delivers m₁ taken
          go true e = waits_on (eqb-true (m i phase_at) 1 e) ne
          go false e = no_work (eqb-false (m i phase_at) 1 e)
