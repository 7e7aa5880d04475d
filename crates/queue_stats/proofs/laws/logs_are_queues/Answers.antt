use Rattle.queue_stats.proofs.ServerRuns.{logs-are_queues}
use Rattle.queue_stats.proofs.laws.logs_are_queues.Goals as goal

pub returns : goal.returns
returns c = record { queues = λ net valid. logs-are_queues net valid }
