use Rattle.std.proofs.Common.{◌≡◌, ◌+◌, ◌*◌, ◌≤◌, length}
use Rattle.sim_base.specs.declared.limits.TheConstants.{MAX_HANDLED}
use Rattle.net_model.specs.declared.limits.TheConstants.{MAX_HORIZON}
use Rattle.queue_stats.specs.Trails.{waits_along, waits_along_log}
use Rattle.queue_stats.proofs.TallyLimits.{IsWithinLimitsFrom}
use Rattle.queue_stats.proofs.waits.waits_of.Given as goal

abbrev pub invariant-loop-entry : goal.invariant-loop-entry
invariant-loop-entry l = record {
  came : l.came + length l.lead ≤ MAX_HANDLED;
  started : l.started + length l.lead ≤ MAX_HANDLED;
  waited : l.waits.waited + length l.lead * MAX_HORIZON ≤ MAX_HANDLED * MAX_HORIZON;
  within_limits : IsWithinLimitsFrom l.lead;
  rest : waits_along l.came l.started l.trail l.waits l.lead ≡ waits_along_log l.log;
}

abbrev pub decreases-loop-entry : goal.decreases-loop-entry
decreases-loop-entry l = length l.lead
