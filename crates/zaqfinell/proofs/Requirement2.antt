-- Requirement 2 holds.
use mathlib.Core.Path.{◌≡◌, refl, sym, ap, ap₂, subst, ◌∙◌}
use mathlib.Core.Logic.{◌≢◌}
use mathlib.Core.Option.{Option, none, some}
use mathlib.Core.List.{List, [], ◌∷◌, ◌++◌, map-append}
use Prim.Native.Nat.{ℕ, suc, ◌≤◌, ◌<◌}
use native.Mathlib.Omega.{arith}
use lib.ListN.{length, take, length-map}
use Rattle.method.specs.Network.{Arc, Net, IsNode, Accepted}
use Rattle.method.specs.Rules.{Filled, Phase, stopped}
use Rattle.method.specs.Steps.{Step, steps, byte_step, run, counts}
use Rattle.method.specs.Entries.{Entry, unknown, nodes, entry, unreachable, known, find, said, table, Stopped, stopped_to}
use Rattle.method.specs.Laws.{Leads, arrived, hop}
use Rattle.method.proofs.Proved.{laws as method-laws}
use Rattle.method.proofs.Always.{run_lawful}
use Rattle.method.proofs.Ends.{one_more_lem}
use Rattle.method.proofs.Said.{unreachable_no_chain}
use Rattle.bits.specs.Bits.{Bytes}
use Rattle.bits.proofs.Bytes.{length_packed}
use Rattle.refusal.proofs.Rows.{else_zero, else_both}
use Rattle.network.specs.Bytes.{size, net_bits, bytes_of}
use Rattle.network.specs.Checked.{Checked, IsAccepted, from_bytes, from_list}
use Rattle.method.specs.Room.{begins}
use Rattle.method.proofs.Room.{written, begins_read}
use Rattle.network.proofs.Laws.{checks}
use Rattle.method.proofs.StoppedCount.{stopped_count, each_stopped, one_working}
use Rattle.table.specs.File.{one}
use Rattle.table.specs.Reader.{entry_read}
use Rattle.table.specs.Laws.{Started}
use Rattle.table.proofs.Proved.{laws as file-laws}
use Rattle.method.specs.Route.{route, passed}
use Rattle.method.specs.RouteLaws.{Over, last_of}
use Rattle.method.proofs.RouteLaws.{laws as route-laws}
use Rattle.call.specs.Files.{read_answer}
use Rattle.call.specs.Calls.{nodes_of, state_after, entry_after, counts_of, stopped_of, entry_refusal, entry_answer}
use Rattle.call.specs.Calls.{nodes_passed, route_refusal, route_room, file_after, write_refusal, write_room}
use Rattle.call.specs.Calls.{pack_refusal, pack_room}
use Rattle.zaqfinell.specs.Requirement2.{IsSo, Followed, RightTables, Requirement2}
use Rattle.zaqfinell.proofs.Enough.{write_clear, run_clear, entry_clear, route_clear, pack_clear, table_fits}

-- an entry that leads on is known
abbrev Known : Net → List Step → ℕ → ℕ → Type 0
Known net bs i y = (d : ℕ) × (h : ℕ) × (entry net bs i y ≡ known d h)

leads_known : (net : Net) (bs : List Step) (y i d : ℕ) → Leads net bs y i d → Known net bs i y
leads_known net bs y i d (arrived at e z) = (d, 0, e)
leads_known net bs y i d (hop h l r e arc sum lt onward) = (d, h, e)

-- so is that of the first hop
hop_known : (net : Net) (bs : List Step) (i y d h : ℕ) → i ≢ y → entry net bs i y ≡ known d h → Leads net bs y i d → Known net bs h y
hop_known net bs i y d h ne is (arrived at e z) = absurd (ne at)
hop_known net bs i y d h ne is (hop g l r e arc sum lt onward) =
    let same : g ≡ h = cc in
    subst (λ (x : ℕ). Known net bs x y) same (leads_known net bs y g r onward)

-- of an accepted network, which is one of the method
module _ (net : Checked) (accepted : IsAccepted net) (fit : Accepted net.meant) where
  -- what an entry says is so
  right : (bs : List ℕ) (i y : ℕ) → IsSo net.meant i y (entry_after net bs i y)
  right bs i y = go (entry_after net bs i y) refl
    where
      go : (x : Entry) → entry_after net bs i y ≡ x → IsSo net.meant i y x
      go unknown is = tt
      go unreachable is = (unreachable_no_chain net.meant fit.valid (nodes net.meant (steps bs))
          (run_lawful net.meant fit.valid (steps bs)) i y is).1
      go (known d h) is = (method-laws net.meant).a_filled_is_right fit.valid (steps bs) i y d h is

  -- an entry of a node that has stopped is not unknown
  not_unknown : (bs : List ℕ) (i y : ℕ) → Stopped net.meant (steps bs) i → entry_after net bs i y ≢ unknown
  not_unknown bs i y stop is = go found (sym (ap (λ (ph : Phase). said ph found) stop) ∙ is)
    where
      found : Option Filled
      found = find y (table net.meant (steps bs) i)

      go : (o : Option Filled) → said stopped o ≡ unknown → ⊥
      go none z = let w : ◌≡◌ {A = ℕ} 0 1 = cc in omega arith
      go (some f) z = let w : ◌≡◌ {A = ℕ} 0 1 = cc in omega arith

  filled : (bs : List ℕ) → stopped_of net bs ≡ nodes_of net → (i y : ℕ) → IsNode (nodes_of net) i
      → Stopped net.meant (steps bs) i × (entry_after net bs i y ≢ unknown)
  filled bs all i y at =
      let stop = each_stopped (state_after net bs) (nodes_of net) all i at in
      (stop, not_unknown bs i y stop)

  -- one step more
  progress : (bs : List ℕ) → stopped_of net bs < nodes_of net
      → (b : ℕ) × (b ≤ 255) × ((counts_of net (bs ++ (b ∷ []))).taken ≡ suc (counts_of net bs).taken)
  progress bs lt =
      let j = one_working (state_after net bs) (nodes_of net) lt in
      let s = (method-laws net.meant).e_some_step fit.sizes fit.valid fit.positive (steps bs) j.0 j.1 j.2 in (
        s.0,
        s.1,
        ap (λ (l : List Step). (counts net.meant l).taken) (map-append byte_step bs (s.0 ∷ []))
            ∙ one_more_lem net.meant (steps bs) (byte_step s.0) s.2,
      )

  -- to the end
  ends : (bs : List ℕ) → (cs : List ℕ) × Bytes cs × (stopped_of net (bs ++ cs) ≡ nodes_of net)
  ends bs =
      let r = (method-laws net.meant).e_ends fit.sizes fit.valid fit.positive (steps bs) in (
        r.0,
        record { each = λ k. omega (arith, r.1 k) },
        ap (λ (ds : List Step). stopped_to (run net.meant ds) (nodes_of net)) (map-append byte_step bs r.0)
            ∙ stopped_count (run net.meant (steps bs ++ steps r.0)) (nodes_of net) r.2,
      )

  -- where an entry is known the nodes passed are the route
  are_route : (bs : List ℕ) (i y d h : ℕ) → entry_after net bs i y ≡ known d h → nodes_passed net bs i y ≡ route (state_after net bs) y i
  are_route bs i y d h is = ap (λ (x : Entry). passed x (route (state_after net bs) y i)) is

  way : (bs : List ℕ) (i y d h : ℕ) → IsNode (nodes_of net) i → entry_after net bs i y ≡ known d h → Followed net bs i y d h
  way bs i y d h at is =
      let r = (route-laws net.meant).arrives fit (steps bs) i y d h at is in
      let here = are_route bs i y d h is in
      let onward : i ≢ y → Known net.meant (steps bs) h y =
      λ ne. hop_known net.meant (steps bs) i y d h ne is
      ((method-laws net.meant).f_hops_lead fit.valid fit.positive (steps bs) i y d h is) in
      record {
        here = λ q. here ∙ r.here q;
        next = λ ne. here ∙ r.next ne ∙ ap (λ (xs : List ℕ). h ∷ xs) (sym (are_route bs h y (onward ne).0 (onward ne).1 (onward ne).2));
        over_arcs = subst (λ (xs : List ℕ). Over net.meant.arcs i xs d) (sym here) r.over_arcs;
        ends = ap (last_of i) here ∙ r.ends;
      }

  -- the nodes passed in the room
  route_room_lem : (bs : List ℕ) (i y : ℕ) (room : List ℕ) → route_refusal net bs i y (length room) ≡ 0
      → take (length (nodes_passed net bs i y)) (route_room net bs i y room) ≡ nodes_passed net bs i y
  route_room_lem bs i y room e =
      ap (take (length (nodes_passed net bs i y)))
      (written (route_refusal net bs i y (length room)) room (begins (nodes_passed net bs i y) room) e)
      ∙ begins_read (nodes_passed net bs i y) room

  -- the file in the room
  file_room : (bs : List ℕ) (i : ℕ) (room : List ℕ) → write_refusal net bs i (length room) ≡ 0
      → take (length (file_after net bs i)) (write_room net bs i room) ≡ file_after net bs i
  file_room bs i room e =
      ap (take (length (file_after net bs i))) (written (write_refusal net bs i (length room)) room (begins (file_after net bs i) room) e)
      ∙ begins_read (file_after net bs i) room

  -- read back
  same : (bs : List ℕ) (i : ℕ) → Started net.meant (steps bs) i → (y : ℕ) → IsNode (nodes_of net) y
      → read_answer (entry_read one (file_after net bs i) y) ≡ entry_answer net bs i y
  same bs i up y at =
      ap read_answer ((file-laws net.meant fit).a_same_entries (steps bs) i up y at)
      ∙ sym (else_zero (entry_refusal net i y) _ (entry_clear net accepted fit i y up.0 at))

  pub right_tables : RightTables net
  right_tables =
      record {
        right = right;
        exactly = λ bs i y stop. (method-laws net.meant).d_unreachable fit.valid (steps bs) i stop y;
        filled = filled;
        progress = progress;
        ends = ends;
        way = way;
        route_room_lem = route_room_lem;
        written = file_room;
        same = same;
        write_clear = write_clear net accepted fit;
        run_clear = run_clear net accepted fit;
        entry_clear = entry_clear net accepted fit;
        route_clear = route_clear net accepted fit;
        pack_clear = pack_clear net accepted fit;
      }

-- the bytes of an arc list, in the room
both_entries : (n lmax : ℕ) (ar : List Arc) (room : List ℕ) → pack_refusal (from_list n lmax ar) (length room) ≡ 0
    → from_bytes (take (size (length ar)) (pack_room (from_list n lmax ar) room)) ≡ from_list n lmax ar
both_entries n lmax ar room e =
    let whole = length_packed (size (length ar)) (net_bits n lmax ar) in
    let taken = (else_both (from_list n lmax ar).refused _ e).0 in
    let is = ap (take (size (length ar)))
    (written (pack_refusal (from_list n lmax ar) (length room)) room (begins (bytes_of n lmax ar) room) e)
    ∙ ap (λ (k : ℕ). take k (begins (bytes_of n lmax ar) room)) (sym whole)
    ∙ begins_read (bytes_of n lmax ar) room in
    let bytes = checks.list_as_bytes n lmax ar taken in
    ap from_bytes is ∙ ap₂ (λ (r : ℕ) (m : Net). checked r m) (bytes.0 ∙ sym taken) bytes.1
  where
    checked : ℕ → Net → Checked
    checked r m = record { refused = r; meant = m }

pub requirement2 : Requirement2
requirement2 =
    record {
      bytes = λ s accepted. right_tables (from_bytes s) accepted (checks.bytes_accepted s accepted);
      list = λ n lmax ar accepted. right_tables (from_list n lmax ar) accepted (checks.list_accepted n lmax ar accepted);
      both_entries = both_entries;
      total = λ net bs. (method-laws net.meant).g_total (steps bs) ∙ length-map bs byte_step;
      table_fits = table_fits;
    }
