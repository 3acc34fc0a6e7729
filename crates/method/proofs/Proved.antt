-- Laws a to m hold of every network.
use mathlib.Core.List.{◌++◌}
use Rattle.method.specs.Network.{Net}
use Rattle.method.specs.Laws.{Laws}
use Rattle.method.specs.Entries.{nodes}
use Rattle.method.proofs.Runs.{run_ok, run_onward}
use Rattle.method.proofs.Always.{run_lawful}
use Rattle.method.proofs.Said.{filled_is_right, final, orders_agree, stopped_unreachable, all_stopped, unstarted_unknown, own_known}
use Rattle.method.proofs.Said.{hop_zero}
use Rattle.method.proofs.Hops.{hops_lead}
use Rattle.method.proofs.Recorded.{records_sound, first_positive}
use Rattle.method.proofs.Bounded.{distance_bound, never_a_mark}
use Rattle.method.proofs.Descent.{positive_loopless}
use Rattle.method.proofs.Progress.{some_step}
use Rattle.method.proofs.Counted.{step_counts, total, each}
use Rattle.method.proofs.Handed.{hands_over, others_same}
use Rattle.method.proofs.Enough.{enough, same_choice}
use Rattle.method.proofs.Tight.{sent_tight}
use Rattle.method.proofs.Taken.{taken_few, taken_within}
use Rattle.method.proofs.Ends.{bytes_end}

pub laws : (net : Net) → Laws net
laws net =
    record {
      a_filled_is_right = λ va bs. filled_is_right net va (nodes net bs) (run_lawful net va bs);
      b_final = λ va bs cs i. final net va (nodes net bs) (nodes net (bs ++ cs)) (run_lawful net va bs) (run_lawful net va (bs ++ cs)) i
          (run_onward net va bs cs i).node;
      b_only_adds = λ va bs cs i. (run_onward net va bs cs i).node.more_table;
      c_orders_agree = λ va ranked bs cs. orders_agree net va ranked (nodes net bs) (nodes net cs) (run_lawful net va bs)
          (run_lawful net va cs);
      d_unreachable = λ va bs. stopped_unreachable net va (nodes net bs) (run_lawful net va bs);
      d_all_stopped = λ va bs. all_stopped net va (nodes net bs) (run_lawful net va bs);
      e_some_step = λ small va positive bs i at ne. some_step net small va (positive_loopless net positive) bs i at ne;
      e_ends = λ small va positive bs. bytes_end net small va (positive_loopless net positive) bs;
      f_hops_lead = λ va positive bs i y d h e. hops_lead net va bs y positive i d h e;
      g_total = total net;
      g_each = each net;
      g_unknown = λ st b. (step_counts net st b).0;
      g_idle = λ st b. (step_counts net st b).1;
      g_no_change = λ st b. (step_counts net st b).2;
      g_hands_over = hands_over net;
      g_others = others_same net;
      h_unstarted = λ va bs. unstarted_unknown net va (nodes net bs) (run_lawful net va bs);
      h_own = λ va bs. own_known net va (nodes net bs) (run_lawful net va bs);
      h_hop = λ va bs. hop_zero net va (nodes net bs) (run_lawful net va bs);
      i_records = λ va bs i at. records_sound net va (nodes net bs) (run_lawful net va bs) i at;
      i_first = λ va positive bs i g e. first_positive net va (nodes net bs) (run_lawful net va bs) i positive g e;
      j_only_grows = λ va bs cs i. (run_onward net va bs cs i).node.more_sent;
      j_distance = λ va bs i y d h at e. distance_bound net va (nodes net bs) (run_lawful net va bs) i y d h at e;
      j_no_mark = λ small va bs i y d h at e. never_a_mark net va bs small i y d h at e;
      k_enough = enough net;
      k_waits = λ va bs i up. (run_ok net va bs i).waits up;
      k_delivered = λ va bs i h. (run_ok net va bs i).site.delivered_le h;
      k_same_choice = same_choice net;
      l_sent = λ va bs i at. sent_tight net va (nodes net bs) (run_lawful net va bs) i at;
      m_taken = taken_within net;
      m_sharp = taken_few net;
    }
