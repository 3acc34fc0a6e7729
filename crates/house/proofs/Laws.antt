-- House table's refusals are exactly what the rows tell, and are said as one line.
use mathlib.Core.Path.{refl}
use Rattle.refusal.proofs.Rows.{answer_by_lem, by_rows}
use Rattle.network.specs.Bytes.{byte_rows}
use Rattle.house_text.specs.Lines.{refused_line}
use Rattle.house.specs.House.{network_bytes, input_refusal}
use Rattle.house.specs.Laws.{HouseLaws}

pub laws : HouseLaws
laws =
    record {
      exactly = λ input. by_rows (byte_rows (network_bytes input)) (input_refusal input) refl;
      number_only = λ input isOne. answer_by_lem (input_refusal input) (refused_line (input_refusal input)) _ isOne;
    }
