use Rattle.std.proofs.Common.{◌<◌, ◌≤◌, arith, min}
use Rattle.sim_base.proofs.ListLaws.{all_weaker}
use Rattle.run_laws.specs.Runs.{end_of}
use Rattle.stations.specs.Runs.{simulation, log_at}
use Rattle.queue_stats.specs.Moments.{moments}
use Rattle.queue_stats.proofs.Little.{little}
use Rattle.queue_stats.proofs.Lindley.{lindley}
use Rattle.queue_stats.proofs.ServerRuns.{logs-are_queues}
use Rattle.queue_stats.proofs.OrderedRuns.{runs-serve_in_order}
use Rattle.queue_stats.proofs.VisitOrder.{visits-end_in_order}
use Rattle.queue_stats.proofs.laws.runs_keep_the_laws_of_queues.Goals as goal

pub returns : goal.returns
returns c = record {
  little = λ net valid clone s front servers room lo hi by_class there is.
      let q = logs-are_queues net valid clone s front servers room lo hi by_class there is in
      little (min front (end_of (simulation net) clone)) q.queue
      (all_weaker (λ x. x.time < min front (end_of (simulation net) clone))
      (λ x. x.time ≤ min front (end_of (simulation net) clone)) (moments (log_at net clone s front))
      (λ x l. omega (arith, l)) q.time_max);
  lindley = λ net valid clone s front room lo hi by_class there is unchanged.
      let q = logs-are_queues net valid clone s front 1 room lo hi by_class there is in lindley q.queue unchanged;
  order = λ net valid. runs-serve_in_order net valid;
  visits = λ net valid clone s front room lo hi there is unchanged.
      visits-end_in_order (moments (log_at net clone s front))
      (runs-serve_in_order net valid clone s front room lo hi there is unchanged);
}
