-- No call gives a refusal other than these, so a C program need not be ready for any other. When each is given is requirement 1.
use Rattle.std.specs.Prelude.{List, [], ◌∷◌, ◌++◌, ℕ}
use Rattle.method.specs.Network.{Arc}
use Rattle.method.specs.Distinct.{Among}
use Rattle.network.specs.Checked.{Checked, from_bytes, from_list}
use Rattle.table.specs.File.{one}
use Rattle.table.specs.Reader.{reading, entry_read}
use Rattle.call.specs.Files.{read_refusal, entries_outcome, outcome_refusal}
use Rattle.call.specs.Calls.{write_refusal, run_refusal, entry_refusal, route_refusal, pack_refusal}

-- those of a network's bytes, of an arc list, and of a table file
abbrev pub of_bytes : List ℕ
of_bytes = 1 ∷ 2 ∷ 3 ∷ 4 ∷ 5 ∷ 6 ∷ 7 ∷ 8 ∷ 9 ∷ []

abbrev pub of_list : List ℕ
of_list = 3 ∷ 4 ∷ 5 ∷ 6 ∷ 7 ∷ 8 ∷ 19 ∷ []

abbrev pub of_file : List ℕ
of_file = 14 ∷ 15 ∷ 16 ∷ 17 ∷ 18 ∷ []

-- no refusal, or one of those
abbrev pub NoneOr : List ℕ → ℕ → Type 0
NoneOr numbers N = Among N (0 ∷ numbers)

-- of a network whose own refusals are among `own`: after them only 11, 12 and 13
pub record NumbersOf (own : List ℕ) (net : Checked) : Type 0 where
  -- zaq_check_network, zaq_check_arcs; and zaq_most_taken, zaq_most_taken_arcs, which refuse nothing more
  pub check : NoneOr own net.refused
  -- zaq_write_table, zaq_write_table_arcs
  pub write : (bs : List ℕ) (i wide : ℕ) → NoneOr (own ++ (11 ∷ 12 ∷ 13 ∷ [])) (write_refusal net bs i wide)
  -- zaq_run, zaq_run_arcs
  pub run : (wide : ℕ) → NoneOr (own ++ (13 ∷ [])) (run_refusal net wide)
  -- zaq_entry, zaq_entry_arcs
  pub entry : (i y : ℕ) → NoneOr (own ++ (11 ∷ [])) (entry_refusal net i y)
  -- zaq_route, zaq_route_arcs
  pub route : (bs : List ℕ) (i y wide : ℕ) → NoneOr (own ++ (11 ∷ 13 ∷ [])) (route_refusal net bs i y wide)
  -- zaq_pack_network, which takes a list
  pub pack : (wide : ℕ) → NoneOr (own ++ (13 ∷ [])) (pack_refusal net wide)

pub record Numbers : Type 0 where
  -- both ways to hand a network over
  pub bytes : (s : List ℕ) → NumbersOf of_bytes (from_bytes s)
  pub list : (n lmax : ℕ) (ar : List Arc) → NumbersOf of_list (from_list n lmax ar)
  -- zaq_read_entry, zaq_read_table
  pub read : (file : List ℕ) (y : ℕ) → NoneOr (of_file ++ (11 ∷ [])) (read_refusal (entry_read one file y)).number
  pub table : (file room : List ℕ) → NoneOr (of_file ++ (13 ∷ [])) (outcome_refusal (entries_outcome (reading one file) room)).number
