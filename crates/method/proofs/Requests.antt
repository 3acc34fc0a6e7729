-- Laws n to p hold of every network.
use mathlib.Core.Path.{ap}
use Rattle.method.specs.Network.{Net}
use Rattle.method.specs.Entries.{others, nodes}
use Rattle.method.specs.Requests.{Requests}
use Rattle.method.proofs.Always.{run_lawful}
use Rattle.method.proofs.Descent.{positive_loopless}
use Rattle.method.proofs.Ways.{ways_lead, way_short}
use Rattle.method.proofs.Loops.{zero_exact, depth_falls, depth_bound}
use Rattle.method.proofs.Same.{orders_begin, stopped_same}
use Rattle.method.proofs.Led.{records_led}
use Rattle.method.proofs.Progress.{some_step}
use Rattle.method.proofs.Ends.{runs_end}

pub requests : (net : Net) → Requests net
requests net =
    record {
      n_orders = λ va ranked bs cs i. orders_begin net va ranked (nodes net bs) (nodes net cs) (run_lawful net va bs)
          (run_lawful net va cs) i;
      n_stopped = λ va ranked bs cs i p q. ap (others i)
          (stopped_same net va ranked (nodes net bs) (nodes net cs) (run_lawful net va bs) (run_lawful net va cs) i p q);
      o_led = λ va ranked bs i. records_led net va ranked i (nodes net bs) (run_lawful net va bs);
      p_some_step = some_step net;
      p_ends = runs_end net;
      p_hops_lead = λ va loopless bs i y d h e. ways_lead net va loopless (nodes net bs) (run_lawful net va bs) y i d h e;
      p_few_hops = λ va bs i y d xs. way_short net va (nodes net bs) y i d xs;
      p_depth_falls = depth_falls net;
      p_depth = depth_bound net;
      p_test = zero_exact net;
      p_positive = positive_loopless net;
    }
