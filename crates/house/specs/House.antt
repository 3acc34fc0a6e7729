-- 01, "The bench program": what "House table" writes for an input.
use Rattle.std.specs.Prelude.{ℕ, List, take, drop}
use Rattle.method.specs.Network.{Net}
use Rattle.method.specs.Steps.{Step, steps, run, counts}
use Rattle.method.specs.Entries.{entry, stopped_to}
use Rattle.refusal.specs.Rows.{answer_by}
use Rattle.network.specs.Bytes.{count, size}
use Rattle.network.specs.Checked.{Checked, from_bytes}
use Rattle.house_text.specs.Lines.{house_text, refused_line}

-- "as many as its arc count asks for": always 3 or more, so an input under 3 bytes is all network
abbrev pub asked : List ℕ → ℕ
asked input = size (count input)

-- "a network's bytes"
abbrev pub network_bytes : List ℕ → List ℕ
network_bytes input = take (asked input) input

-- "then step bytes to the end of input"
abbrev pub step_bytes : List ℕ → List ℕ
step_bytes input = drop (asked input) input

-- "Input that ends inside the network is refusal 1, in its usual place"
abbrev pub input_refusal : List ℕ → ℕ
input_refusal input = (from_bytes (network_bytes input)).refused

-- "one line of counts" ("S is how many nodes have stopped"), "then for each node and target in rising order" its line
abbrev pub table_text : Net → List Step → List ℕ
table_text net bs =
    let c = counts net bs in
    house_text c.taken c.idle c.unknown (stopped_to (run net bs) net.n) net.n (entry net bs)

-- "A refusal is the one line `refused N`."
abbrev pub text_of : ℕ → Net → List Step → List ℕ
text_of N net bs = answer_by N (refused_line N) (table_text net bs)

-- the text of a network and step bytes
abbrev pub text_for : Checked → List ℕ → List ℕ
text_for net bs = text_of net.refused net.meant (steps bs)

-- the whole text of an input
abbrev pub text : List ℕ → List ℕ
text input = text_for (from_bytes (network_bytes input)) (step_bytes input)
