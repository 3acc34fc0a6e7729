-- `scan`: the arcs that are left are refused with, and leave laid out, what all of them do.
use mathlib.Core.Path.{◌≡◌}
use Rattle.refusal.specs.Rows.{refused}
use Rattle.network.specs.Bytes.{arcs}
use Rattle.network.specs.LaidOut.{with_arcs}
use Rattle.network.specs.Marks.{marks_rows}
use Rattle.network.proofs.OneMore.{left}
use Rattle.network_bytes.proofs.scan.Given as goal

abbrev pub invariant-loop-k : goal.invariant-loop-k
invariant-loop-k l =
    let g = l.layout in
    let g₀ = l.initial.layout in
    record {
      nodes : g.nodes ≡ g₀.nodes;
      lmax : g.lmax ≡ g₀.lmax;
      count : g.count ≡ g₀.count;
      refused : refused (marks_rows g.nodes g.lmax l.k g (left l.net g₀.count l.k))
          ≡ refused (marks_rows g₀.nodes g₀.lmax 0 g₀ (arcs l.net 0 g₀.count));
      laid : with_arcs g l.k (left l.net g₀.count l.k) ≡ with_arcs g₀ 0 (arcs l.net 0 g₀.count);
    }
