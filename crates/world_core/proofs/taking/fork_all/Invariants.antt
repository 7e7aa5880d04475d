use Rattle.world_core.proofs.Forks.{ForkedTo}
use Rattle.world_core.proofs.taking.fork_all.Given as goal

abbrev pub invariant-loop-i : goal.invariant-loop-i
invariant-loop-i l = ForkedTo l.old l.new l.i l.fn.procs.items l.procs.items
