-- An arc list laid out: what is left of it, and what it is refused with.
use mathlib.Core.Path.{◌≡◌, refl, sym, ◌∙◌, ap}
use mathlib.Core.List.{List, [], ◌∷◌, map}
use Prim.Native.Nat.{ℕ, ◌+◌, ◌<◌}
use native.Mathlib.Omega.{arith}
use native.Mathlib.Numerals.{add-one}
use lib.ListN.{length, get_or, drop, length-map}
use lib.Seq.{drop-cons, drop-length}
use Rattle.method.specs.Network.{Arc as MethodArc, house}
use Rattle.refusal.specs.Rows.{Refusal}
use Rattle.refusal.specs.Rows.{refused}
use Rattle.refusal.specs.Told.{number_of}
use Rattle.refusal.specs.declared.Reason.{Reason}
use Rattle.refusal.proofs.Rows.{clear, number_after}
use Rattle.refusal.proofs.Told.{refused_early}
use Rattle.network.specs.Refusal.{arcs_rows}
use Rattle.network.specs.ArcList.{header_list_rows, list_rows}
use Rattle.network.specs.Given.{given}
use Rattle.network.specs.Layout.{arc_most, net_of}
use Rattle.network.specs.LaidOut.{headed, with_arcs, laid_out}
use Rattle.network.specs.Marks.{marks_rows}
use Rattle.network.specs.declared.Arc.{Arc}
use Rattle.network.specs.declared.Layout.{Layout}
use Rattle.network.proofs.Sound.{sized}
use Rattle.network.proofs.Marks.{marks_refuse_all}
use Rattle.network.proofs.Laws.{means, is_accepted, lengths_are, sites_are}

-- the arcs from arc i on
abbrev pub ahead : List Arc → ℕ → List MethodArc
ahead ys i = map given (drop i ys)

pub ahead_next : (ys : List Arc) (i : ℕ) (a : Arc) → i < length ys → ahead ys i ≡ given (get_or ys i a) ∷ ahead ys (i + 1)
ahead_next ys i a l = rw (add-one i, drop-cons ys i a l)

pub none_ahead : (ys : List Arc) (i : ℕ) → i ≡ length ys → ahead ys i ≡ []
none_ahead ys i e = rw (e, drop-length ys)

module _ (n lmax : ℕ) (ys : List Arc) where
  abbrev ar : List MethodArc
  ar = map given ys

  many : length ar ≡ length ys
  many = length-map ys given

  -- what comes before the arcs
  before : refused (header_list_rows n lmax (length ar)) ≡ refused (header_list_rows n lmax (length ys))
  before = ap (λ (m : ℕ). refused (header_list_rows n lmax m)) many

  pub early : (reason : Reason) → number_of reason ≡ refused (header_list_rows n lmax (length ys)) → number_of reason ≡ refused
      (list_rows n lmax ar)
  unfolding list_rows
  early reason e = refused_early reason (header_list_rows n lmax (length ar)) _ (e ∙ sym before)

  module _ (h : refused (header_list_rows n lmax (length ys)) ≡ 0) (g : Layout) (is : g ≡ headed n lmax (length ys)) where
    one_pass : refused (marks_rows g.nodes g.lmax 0 g ar) ≡ refused (list_rows n lmax ar)
    unfolding list_rows
    one_pass =
        let s = sized n lmax (length ys) (clear (header_list_rows n lmax (length ys)) h) in
        rw is (ap (λ (r : Refusal). r.number) (rw many at (marks_refuse_all n lmax ar s.0.1 s.1.1 (omega (arith, many))))
        ∙ sym (number_after (header_list_rows n lmax (length ar)) (arcs_rows n lmax [] ar) (before ∙ h)))

    pub refused_arcs : (reason : Reason) → number_of reason ≡ refused (marks_rows g.nodes g.lmax 0 g ar) → number_of reason ≡ refused
        (list_rows n lmax ar)
    refused_arcs reason e = e ∙ one_pass

    module _ (arcs_pass : 0 ≡ refused (marks_rows g.nodes g.lmax 0 g ar)) (g' : Layout) (laid : g' ≡ with_arcs g 0 ar) where
      pub none : 0 ≡ refused (list_rows n lmax ar)
      none = arcs_pass ∙ one_pass

      as_house : g' ≡ laid_out (house n lmax ar)
      as_house = laid ∙ rw (is, many) refl

      pub means_house : net_of g' ≡ house n lmax ar
      means_house = means g' n lmax ar (sym none) as_house

      pub accepted : refused (list_rows g'.nodes g'.lmax (net_of g').arcs) ≡ 0
      accepted = is_accepted g' n lmax ar (sym none) as_house

      pub lengths : g'.lengths ≡ (laid_out (net_of g')).lengths
      lengths = lengths_are g' n lmax ar (sym none) as_house

      pub sites : length g'.sites ≡ arc_most
      sites = sites_are g' n lmax ar (sym none) as_house
