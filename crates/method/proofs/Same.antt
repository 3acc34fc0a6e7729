-- Every run, however messages travel, fills a node's table in the order of `Canon`, so of the records of two runs one list is the beginning
-- of the other: law n.
use mathlib.Core.Path.{◌≡◌, refl, sym, ap, subst, ◌∙◌}
use mathlib.Core.Logic.{◌⊎◌, inl, inr}
use mathlib.Core.Bool.{Bool, true, false, cond}
use mathlib.Core.List.{List, [], ◌∷◌, ◌++◌}
use Prim.Native.Nat.{ℕ}
use native.Mathlib.Omega.{arith}
use lib.Dec.{eqb}
use Rattle.method.specs.Network.{Net, Valid, Ranked}
use Rattle.method.specs.Message.{Msg}
use Rattle.method.specs.Rules.{Filled, stopped, Node, Choice, fill}
use Rattle.method.specs.Entries.{others, records_of}
use Rattle.method.specs.Order.{Begins}
use Rattle.method.specs.Distinct.{Among}
use Rattle.method.specs.Invariant.{In, targets, Has, labels}
use Rattle.method.proofs.Table.{Once}
use Rattle.method.proofs.View.{started_unstarted}
use Rattle.method.proofs.Acts.{first}
use Rattle.method.proofs.Fill.{starts}
use Rattle.method.proofs.Keeping.{Acting, Told, Keeps}
use Rattle.method.proofs.Lawful.{Lawful}
use Rattle.method.proofs.Said.{once, stopped_has}
use Rattle.method.proofs.Order.{First, Canon, nothing, itself, next, canon_drop, Alike, alike}

-- where the entry of a target stands in a table, ys being the targets of the older ones
pub record At (y : ℕ) (ys : List ℕ) (es : List Filled) : Type 0 where
  pub newer : List Filled
  pub entry : Filled
  pub older : List Filled
  pub is : es ≡ newer ++ (entry ∷ older)
  pub target : entry.target ≡ y
  pub before : targets older ≡ ys

at : (g : List ℕ) (y : ℕ) (ys : List ℕ) (es : List Filled) → targets es ≡ g ++ (y ∷ ys) → At y ys es
at [] y ys [] q = let z : ◌≡◌ {A = ℕ} 0 1 = cc in absurd (omega arith)
at [] y ys (e ∷ es) q = record { newer = []; entry = e; older = es; is = refl; target = cc; before = cc }
at (x ∷ g) y ys [] q = let z : ◌≡◌ {A = ℕ} 0 1 = cc in absurd (omega arith)
at (x ∷ g) y ys (e ∷ es) q = let t : targets es ≡ g ++ (y ∷ ys) = cc in farther (at g y ys es t)
  where
    farther : At y ys es → At y ys (e ∷ es)
    farther r =
        record {
          newer = e ∷ r.newer;
          entry = r.entry;
          older = r.older;
          is = ap (λ (s : List Filled). e ∷ s) r.is;
          target = r.target;
          before = r.before;
        }

-- what every run keeps
abbrev pub InOrder : Net → ℕ → Node → Type 0
InOrder net i nd = Canon net i nd.table

module _ (net : Net) (i : ℕ) (T : ℕ → List Msg) (nd : Node) (p : Choice) (y : ℕ) (act : Acting net i T nd p) (new : Has y nd.table → ⊥)
    (told : Told net (InOrder net) p.head y (T p.head)) where
  -- where the hop has filled y
  there : At y (labels (T p.head)) told.teller.table
  there =
      at told.newer y (labels (T p.head)) told.teller.table (sym told.ok.each ∙ told.is)

  is_first : First net i nd.table (record { target = y; distance = p.sum; hop = p.head })
  is_first =
      record {
        own = act.ok.own (λ e. started_unstarted nd.phase act.up e);
        new = new;
        starts = starts net i T nd act.ok act.known act.up p act.chosen act.close y new told.good;
        first = λ z h l s a c nz. first net i T nd act.ok act.known act.up p act.chosen z nz h l s a c;
      }

  -- what the hop has filled before y was heard from it before y, so it has an entry
  listed : (z : ℕ) → Has z there.older → Has z nd.table
  listed z h = act.ok.heard p.head z (subst (λ (ys : List ℕ). Among z ys) there.before h)

  fill_in_order : InOrder net i nd → InOrder net i (fill nd p y)
  fill_in_order now =
      let hop = canon_drop net p.head there.newer (there.entry ∷ there.older)
      (subst (λ (r : List Filled). Canon net p.head r) there.is told.holds) in
      next (record { target = y; distance = p.sum; hop = p.head }) nd.table there.entry there.older now hop is_first
      there.target listed refl

in_order : (net : Net) → Keeps net (InOrder net)
in_order net =
    record {
      at_first = λ i. nothing refl;
      at_start = λ i. itself refl;
      at_stop = λ i nd now. now;
      at_wait = λ i T nd p act now. now;
      at_fill = λ i T nd p y act new told now. fill_in_order net i T nd p y act new told now;
    }

others_append : (i : ℕ) (es fs : List Filled) → others i (es ++ fs) ≡ others i es ++ others i fs
others_append i [] fs = refl
others_append i (e ∷ es) fs = go (eqb e.target i) (others_append i es fs)
  where
    go : (b : Bool) → others i (es ++ fs) ≡ others i es ++ others i fs
        → cond b (others i (es ++ fs)) (e ∷ others i (es ++ fs)) ≡ cond b (others i es) (e ∷ others i es) ++ others i fs
    go true q = q
    go false q = ap (λ (r : List Filled). e ∷ r) q

others_begin : (i : ℕ) (es fs : List Filled) → Begins es fs → Begins (others i es) (others i fs)
others_begin i es fs b = (others i b.0, ap (others i) b.1 ∙ others_append i b.0 es)

has_later : (y : ℕ) (g es : List Filled) → Has y es → Has y (g ++ es)
has_later y [] es h = h
has_later y (e ∷ g) es h = inr (has_later y g es h)

-- a list without repeats, of targets that a beginning has, is no longer than that
no_more : (es fs : List Filled) → Begins es fs → Once fs → ((f : Filled) → In f fs → Has f.target es) → es ≡ fs
no_more es fs ([], q) o h = sym q
no_more es fs (f ∷ g, q) o h =
    let o₁ : Once (f ∷ g ++ es) = subst Once q o in
    absurd (o₁.0 (has_later f.target g es (h f (subst (λ (r : List Filled). In f r) (sym q) (inl refl)))))

module _ (net : Net) (va : Valid net) where
  pub canon_of : (nodes : ℕ → Node) → Lawful net nodes → (i : ℕ) → Canon net i (nodes i).table
  canon_of nodes lawful i = lawful.keeps (InOrder net) (in_order net) i

  -- two runs of any kind
  module _ (ranked : Ranked net) (nodes nodes' : ℕ → Node) (one : Lawful net nodes) (other : Lawful net nodes') (i : ℕ) where
    tables_begin : Alike (nodes i).table (nodes' i).table
    tables_begin = alike net va ranked i (nodes i).table (nodes' i).table (canon_of nodes one i) (canon_of nodes' other i)

    pub orders_begin : Begins (records_of i (nodes i)) (records_of i (nodes' i)) ⊎ Begins (records_of i (nodes' i)) (records_of i (nodes i))
    orders_begin = go tables_begin
      where
        go : Alike (nodes i).table (nodes' i).table → Begins (records_of i (nodes i)) (records_of i (nodes' i)) ⊎ Begins
            (records_of i (nodes' i)) (records_of i (nodes i))
        go (inl b) = inr (others_begin i (nodes' i).table (nodes i).table b)
        go (inr b) = inl (others_begin i (nodes i).table (nodes' i).table b)

    pub stopped_same : (nodes i).phase ≡ stopped → (nodes' i).phase ≡ stopped → (nodes i).table ≡ (nodes' i).table
    stopped_same p q = go tables_begin
      where
        all : (us vs : ℕ → Node) → Lawful net us → Lawful net vs → (us i).phase ≡ stopped → (f : Filled) → In f (vs i).table
            → Has f.target (us i).table
        all us vs lu lv e f m = stopped_has net va us lu i e f.target f.distance ((lv.ok i).right f m).distance.chain

        go : Alike (nodes i).table (nodes' i).table → (nodes i).table ≡ (nodes' i).table
        go (inl b) = sym (no_more (nodes' i).table (nodes i).table b (once net va nodes one i) (all nodes' nodes other one q))
        go (inr b) = no_more (nodes i).table (nodes' i).table b (once net va nodes' other i) (all nodes nodes' one other p)
