use Rattle.std.proofs.Common.{◌≡◌, drop}
use Rattle.sim_base.specs.Order.{msg_cmp}
use Rattle.net_model.specs.Net.{Net}
use Rattle.run_laws.specs.Queue.{insert_all}
use Rattle.run_laws.specs.World.{set_messages}
use Rattle.stations.specs.Runs.{simulation}
use Rattle.solo_run.specs.EventLists.{all_messages}
use Rattle.solo_run.proofs.opening.put_decisions.Given as goal

abbrev pub invariant-loop-k : goal.invariant-loop-k
invariant-loop-k l = (net : Net)
    → insert_all msg_cmp (set_messages (simulation net) l.k (drop l.k l.list)) (all_messages l.pending)
    ≡ insert_all msg_cmp (set_messages (simulation net) 0 l.list) (all_messages l.fn.pending)
