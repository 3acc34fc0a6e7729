-- What a check finds of a network, in code: a reason to refuse it, or the network. It is one value, however the network was handed over.
use Rattle.std.specs.Prelude.{◌≡◌, Result, IfOk}
use Rattle.refusal.specs.Told.{number_in}
use Rattle.refusal.specs.declared.Reason.{Reason}
use Rattle.network.specs.Checked.{Checked}
use Rattle.network.specs.Layout.{net_of}
use Rattle.network.specs.declared.Network.{Network}

-- what was found is what the check finds of net
pub record Finds (net : Checked) (found : Result Network Reason) : Type 0 where
  pub refused : number_in found ≡ net.refused
  pub meant : IfOk found (λ accepted. net_of accepted.layout ≡ net.meant)
