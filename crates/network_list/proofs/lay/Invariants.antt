-- `lay`: the arcs that are left are refused with, and leave laid out, what all of them do.
use mathlib.Core.Path.{◌≡◌}
use mathlib.Core.List.{map}
use lib.ListN.{drop}
use Rattle.refusal.specs.Rows.{refused}
use Rattle.network.specs.Given.{given}
use Rattle.network.specs.LaidOut.{with_arcs}
use Rattle.network.specs.Marks.{marks_rows}
use Rattle.network_list.proofs.lay.Given as goal

abbrev pub invariant-loop-k : goal.invariant-loop-k
invariant-loop-k l =
    let g = l.layout in
    let g₀ = l.initial.layout in
    record {
      nodes : g.nodes ≡ g₀.nodes;
      refused : refused (marks_rows g.nodes g.lmax l.k g (map given (drop l.k l.arcs)))
          ≡ refused (marks_rows g₀.nodes g₀.lmax 0 g₀ (map given l.arcs));
      laid : with_arcs g l.k (map given (drop l.k l.arcs)) ≡ with_arcs g₀ 0 (map given l.arcs);
    }
