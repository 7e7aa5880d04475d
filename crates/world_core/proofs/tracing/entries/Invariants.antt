use Rattle.std.proofs.Common.{◌≡◌, ◌++◌, length}
use Rattle.world_core.proofs.tracing.entries.Given as goal

abbrev pub invariant-loop-entry : goal.invariant-loop-entry
invariant-loop-entry l = l.out.items ++ l.walk ≡ l.log

abbrev pub decreases-loop-entry : goal.decreases-loop-entry
decreases-loop-entry l = length l.walk
