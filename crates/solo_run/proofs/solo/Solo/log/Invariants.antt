use Rattle.std.proofs.Common.{◌≡◌, ◌++◌, length}
use Rattle.run_laws.specs.World.{log_of}
use Rattle.solo_run.specs.Limit.{receiver}
use Rattle.solo_run.proofs.solo.Solo.log.Given as goal

abbrev pub invariant-loop-entry : goal.invariant-loop-entry
invariant-loop-entry l = l.log.items ++ log_of receiver l.station l.walk
    ≡ log_of receiver l.station l.self.trace

abbrev pub decreases-loop-entry : goal.decreases-loop-entry
decreases-loop-entry l = length l.walk
