use Rattle.std.proofs.Common.{◌≡◌, length}
use Rattle.queue_stats.specs.Trails.{first_arrival, after_first_arrival}
use Rattle.queue_stats.proofs.waits.next_arrival.Given as goal

abbrev pub invariant-loop-entry : goal.invariant-loop-entry
invariant-loop-entry l = record {
  first : first_arrival l.walk ≡ first_arrival l.fn.walk;
  rest : after_first_arrival l.walk ≡ after_first_arrival l.fn.walk;
}

abbrev pub decreases-loop-entry : goal.decreases-loop-entry
decreases-loop-entry l = length l.walk
