-- How many messages a node sends and how many steps a run takes, at most: the numbers of laws l and m.
use Rattle.std.specs.Prelude.{ℕ, ◌+◌, ◌-◌, ◌*◌, length}
use Rattle.method.specs.Network.{Net}

-- the most messages in a sent list
abbrev pub most_sent : Net → ℕ
most_sent net = (net.n - 1) * net.lmax + net.n + 2

-- every node starts, and every arc hands over k messages
abbrev pub starts_and : Net → ℕ → ℕ
starts_and net k = net.n + length net.arcs * k

-- 02, K8: "n plus the number of arcs times (n × LMAX + n + 1)"
abbrev pub most_taken : Net → ℕ
most_taken net = starts_and net (net.n * net.lmax + net.n + 1)

-- the same with the most messages in a sent list, which is less from LMAX 2 on
abbrev pub most_taken_sharp : Net → ℕ
most_taken_sharp net = starts_and net (most_sent net)
