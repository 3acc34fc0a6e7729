-- What it means to store a message: to send a length, to wait, to stop.
use mathlib.Core.Path.{◌≡◌, refl, ap, ◌∙◌}
use mathlib.Core.Logic.{◌≢◌}
use mathlib.Core.Bool.{Bool, true, false, cond}
use mathlib.Core.List.{List, ◌∷◌}
use Prim.Native.Nat.{ℕ, ◌+◌, ◌-◌, ◌≤◌, ◌<◌}
use native.Mathlib.Omega.{arith}
use native.Mathlib.Numerals.{add-one}
use lib.Dec.{eqb}
use borrow.Author.Tests.{eqb-true, eqb-false, le-leb, lt-leb, ne_eqb}
use Rattle.method.specs.Message.{Msg, label, len, last_len}
use Rattle.method.specs.Rules.{stopped, Node, stop, wait}
use Rattle.method.specs.Work.{Site, became}
use Rattle.run_cells.specs.Part.{Part, entry_most, label_most, phase_at, sent_count, entry_count, lp_at, last_at, waits_at}
use Rattle.run_cells.specs.Part.{delivered_at, taken_at, targets_at, distances_at, hops_at, messages_at, msg_of, phase_named, node_of}
use Rattle.run_cells.specs.Part.{site_of}
use Rattle.run_cells.specs.Stores.{upd, pushed, length_sent, waited, stopped_part}
use Rattle.run_cells.specs.Caches.{Last}
use Rattle.run_cells.proofs.Stored.{pushed_else}
use Rattle.run_cells.proofs.Meaning.{hit, skip, sent_same, table_same, row_same, site, sites, dead, phase_site}

-- a message as a number

pub label_is : (s : List Msg) (y : ℕ) → 1 ≤ y → y ≤ label_most → msg_of s y ≡ label y
label_is s y pos le = rw (ne_eqb y 0 (omega arith), le-leb y label_most le)

pub length_is : (s : List Msg) (w : ℕ) → label_most < w → msg_of s w ≡ len (last_len s + (w - label_most))
length_is s w lt = rw (ne_eqb w 0 (omega arith), lt-leb w label_most lt)

sent_length_is : (s : List Msg) (x : ℕ) → last_len s < x → msg_of s (label_most + (x - last_len s)) ≡ len x
sent_length_is s x lt =
    let e : last_len s + (label_most + (x - last_len s) - label_most) ≡ x = omega arith in
    length_is s (label_most + (x - last_len s)) (omega arith) ∙ ap len e

-- a message more

abbrev pub saying : Node → Msg → Node
saying nd m = record { phase = nd.phase; sent = m ∷ nd.sent; table = nd.table; lp = nd.lp }

pub pushed_count : (f : Part) (w : ℕ) → pushed f w sent_count ≡ f sent_count + 1
unfolding pushed
pushed_count f w = refl

pushed_new : (f : Part) (w : ℕ) → pushed f w (messages_at + f sent_count) ≡ w
unfolding pushed
pushed_new f w = skip (upd f (messages_at + f sent_count) w) sent_count (f sent_count + 1) (messages_at + f sent_count) (omega arith)
    ∙ hit f (messages_at + f sent_count) w

pushed_old : (f : Part) (w q : ℕ) → q < f sent_count → pushed f w (messages_at + q) ≡ f (messages_at + q)
unfolding pushed
pushed_old f w q lt = skip (upd f (messages_at + f sent_count) w) sent_count (f sent_count + 1) (messages_at + q) (omega arith)
    ∙ skip f (messages_at + f sent_count) w (messages_at + q) (omega arith)

push_sent : (f : Part) (w : ℕ) → (node_of (pushed f w)).sent ≡ msg_of (node_of f).sent w ∷ (node_of f).sent
push_sent f w = rw (pushed_count f w, add-one (f sent_count), pushed_new f w, sent_same f (pushed f w) (f sent_count) (pushed_old f w))

pub push_site : (f : Part) (w : ℕ) → f entry_count ≤ entry_most
    → site_of (pushed f w) ≡ became (site_of f) (saying (node_of f) (msg_of (node_of f).sent w))
push_site f w few =
    sites (ap phase_named (same phase_at (omega arith) (omega arith))) (push_sent f w)
    (rw (same entry_count (omega arith) (omega arith))
    (table_same f (pushed f w) (f entry_count)
    (λ q lt. rw (
      same (targets_at + q) (omega arith) (omega arith),
      same (distances_at + q) (omega arith) (omega arith),
      same (hops_at + q) (omega arith) (omega arith),
    ))))
    (same lp_at (omega arith) (omega arith))
    (row_same f (pushed f w) delivered_at (λ h lt. same (delivered_at + h) (omega arith) (omega arith)))
    (row_same f (pushed f w) taken_at (λ h lt. same (taken_at + h) (omega arith) (omega arith)))
  where
    same : (o : ℕ) → o < messages_at → o ≢ sent_count → pushed f w o ≡ f o
    same o lt ne = pushed_else f w o lt ne

pub sent_last : (f : Part) (x : ℕ) → length_sent f x last_at ≡ x
unfolding length_sent
sent_last f x = go (eqb (f last_at) x) refl
  where
    go : (b : Bool) → eqb (f last_at) x ≡ b → cond b f (upd (pushed f (label_most + (x - f last_at))) last_at x) last_at ≡ x
    go true e = eqb-true (f last_at) x e
    go false e = refl

pub length_site : (f : Part) (x : ℕ) → f entry_count ≤ entry_most → Last f → f last_at ≤ x
    → site_of (length_sent f x) ≡ became (site_of f) (wait (node_of f) x)
unfolding length_sent
length_site f x few last le = rw last (go (eqb (last_len (node_of f).sent) x) refl)
  where
    s : List Msg
    s = (node_of f).sent

    w : ℕ
    w = label_most + (x - last_len s)

    go : (b : Bool) → eqb (last_len (node_of f).sent) x ≡ b
        → site_of (cond b f (upd (pushed f (label_most + (x - last_len (node_of f).sent))) last_at x))
        ≡ became (site_of f) (record {
          phase = (node_of f).phase;
          sent = cond b (node_of f).sent (len x ∷ (node_of f).sent);
          table = (node_of f).table;
          lp = f lp_at;
        })
    go true e = refl
    go false e =
        let ne = eqb-false (last_len s) x e in
        dead (pushed f w) last_at x (omega arith) (λ h lt. omega arith) (λ q lt. omega arith) (λ q lt. omega arith)
        ∙ push_site f w few ∙ ap (λ (m : Msg). became (site_of f) (saying (node_of f) m)) (sent_length_is s x (omega (arith, last, le, ne)))

pub wait_site : (f : Part) (x h : ℕ) → f entry_count ≤ entry_most → Last f → f last_at ≤ x
    → site_of (waited f x h) ≡ became (site_of f) (wait (node_of f) x)
unfolding waited
wait_site f x h few last le =
    dead (length_sent f x) waits_at h (omega arith) (λ k lt. omega arith) (λ q lt. omega arith) (λ q lt. omega arith)
    ∙ length_site f x few last le

pub stopped_phase : (f : Part) → stopped_part f phase_at ≡ 2
unfolding stopped_part
stopped_phase f = refl

pub stop_site : (f : Part) → f entry_count ≤ entry_most → site_of (stopped_part f) ≡ became (site_of f) (stop (node_of f))
unfolding stopped_part
stop_site f few =
    phase_site (pushed f 0) 2
    ∙ ap (λ (s : Site). site stopped s.node.sent s.node.table s.node.lp s.delivered s.taken) (push_site f 0 few)
