use Rattle.std.proofs.Common.{◌≡◌, length}
use Rattle.queue_stats.specs.Tallies.{tally_along, empty_tally}
use Rattle.queue_stats.proofs.TallyLimits.{MayAddAll}
use Rattle.queue_stats.proofs.tally.tally_of.Given as goal

abbrev pub invariant-loop-entry : goal.invariant-loop-entry
invariant-loop-entry l = record {
  may_add : MayAddAll l.tally l.walk;
  rest : tally_along l.tally l.walk ≡ tally_along empty_tally l.log;
}

abbrev pub decreases-loop-entry : goal.decreases-loop-entry
decreases-loop-entry l = length l.walk
