-- What each act of a node keeps, its work keeps. `ss j` is the sequence of its arc to j, whatever part of j's sent list that is.
use mathlib.Core.Path.{◌≡◌, sym, ap, ◌∙◌}
use mathlib.Core.Option.{some}
use mathlib.Core.List.{List, ◌∷◌, ◌++◌, append_assoc}
use Prim.Native.Nat.{ℕ, zero, suc, ◌-◌, ◌<◌}
use native.Mathlib.Omega.{arith}
use lib.ListN.{length, take-append-drop}
use Rattle.method.specs.Network.{Net, Valid}
use Rattle.method.specs.Message.{Msg, label, item, oldest}
use Rattle.method.specs.Rules.{Phase, unstarted, started, stopped, Node, Go, to₁, Turn, rests, took}
use Rattle.method.specs.Work.{Site, heard, next, turn_at, took_one, go_on, turns, allowed, work, works_on}
use Rattle.method.specs.Invariant.{labels, Good, Ok, SiteOk}
use Rattle.method.proofs.Sent.{labels_append}
use Rattle.method.proofs.Again.{Held}
use Rattle.method.proofs.Turns.{Turned}
use Rattle.method.proofs.Keeping.{Told, Keeps, After, turn_keeps}
use Rattle.method.proofs.Oldest.{oldest_suc, good_oldest, next_some}
use Rattle.method.proofs.Working.{coming, turn_at_ok, took_ok, took_held}

-- node j, of which P holds, has sent the labels of the sequence s first
pub record Source (net : Net) (P : ℕ → Node → Type 0) (j : ℕ) (s : List Msg) : Type 0 where
  pub teller : Node
  pub view : ℕ → List Msg
  pub ok : Ok net j view teller
  pub holds : P j teller
  pub newer : List ℕ
  pub is : labels teller.sent ≡ newer ++ labels s

-- the messages that an arc has taken are the older part of its sequence
pub oldest_part : (t : ℕ) (s : List Msg) → (g : List Msg) × (s ≡ g ++ oldest t s)
unfolding oldest
oldest_part t s = (lib.ListN.take (length s - t) s, sym (take-append-drop (length s - t) s))

module _ (net : Net) (va : Valid net) (P : ℕ → Node → Type 0) (keeps : Keeps net P) (i : ℕ) (ss : ℕ → List Msg)
    (true_lists : (j : ℕ) → Good net.arcs j (ss j)) (sources : (j : ℕ) → Source net P j (ss j)) where
  told : (s : Site) → SiteOk net i ss s → (j y : ℕ) → next ss s j ≡ some (label y) → Told net P j y (heard ss s j)
  told s sk j y e =
      let n = next_some ss s j (label y) e in
      let lt : s.taken j < length (ss j) = omega (arith, n.0, sk.delivered_le j) in
      let q = oldest_suc (s.taken j) (ss j) lt ∙ ap (λ (m : Msg). m ∷ heard ss s j) n.1 in
      let part = oldest_part (suc (s.taken j)) (ss j) in
      let split : labels (ss j) ≡ labels part.0 ++ (y ∷ labels (heard ss s j)) =
      ap labels part.1 ∙ labels_append part.0 (oldest (suc (s.taken j)) (ss j))
      ∙ ap (λ (r : List Msg). labels part.0 ++ labels r) q in
      record {
        teller = (sources j).teller;
        view = (sources j).view;
        ok = (sources j).ok;
        holds = (sources j).holds;
        newer = (sources j).newer ++ labels part.0;
        is = (sources j).is ∙ ap (λ (r : List ℕ). (sources j).newer ++ r) split
            ∙ sym (append_assoc (sources j).newer (labels part.0) (y ∷ labels (heard ss s j)));
        good = coming net va i ss true_lists s sk j (label y) e;
      }

  go_on_keeps : (more : Go → Site → Site)
      → ((g : Go) (r : Site) → SiteOk net i ss r → r.node.phase ≡ started → Held net i (λ h. item (heard ss r h)) g r.node
      → P i r.node → P i (more g r).node)
      → (s : Site) → SiteOk net i ss s → (t : Turn) → Turned net i (heard ss s) (next ss s) s.node t → After net P keeps i t
      → P i (go_on more s t).node
  go_on_keeps more ih s sk (rests nd) w kept = kept
  go_on_keeps more ih s sk (took h nd go) w kept =
      ih go (took_one s h nd) (took_ok net va i ss true_lists s sk h nd go w) w.up (took_held net va i ss true_lists s sk h nd go w) kept

  turns_keeps : (k : ℕ) (go : Go) (s : Site) → SiteOk net i ss s → s.node.phase ≡ started
      → Held net i (λ h. item (heard ss s h)) go s.node → P i s.node → P i (turns k net i ss go s).node
  unfolding turns turn_at
  turns_keeps zero go s sk up held now = now
  turns_keeps (suc k) go s sk up held now =
      go_on_keeps (λ g r. turns k net i ss g r) (λ g r. turns_keeps k g r) s sk (turn_at net i ss go s)
      (turn_at_ok net va i ss true_lists s sk up go held)
      (turn_keeps net P keeps i (heard ss s) (next ss s) (λ j. good_oldest net.arcs j (s.taken j) (ss j) (true_lists j))
      (told s sk) s.node sk.ok up now go held)

  pub work_keeps : (s : Site) → SiteOk net i ss s → s.node.phase ≡ started → P i s.node → P i (work net i ss s).node
  unfolding work
  work_keeps s sk up now = turns_keeps (allowed net s) to₁ s sk up tt now

  pub works_on_keeps : (ph : Phase) (s : Site) → s.node.phase ≡ ph → SiteOk net i ss s → P i s.node → P i (works_on ph net i ss s).node
  works_on_keeps unstarted s e sk now = now
  works_on_keeps started s e sk now = work_keeps s sk e now
  works_on_keeps stopped s e sk now = now
