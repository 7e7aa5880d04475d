use Rattle.clone_sets.specs.Sets.{size}
use Rattle.phys_proc.specs.Ends.{ends_in}
use Rattle.phys_proc.proofs.LeastTimes.{OthersNone}
use Rattle.phys_proc.proofs.leasts.least_of_copy.Given as goal

abbrev pub invariant-loop-first : goal.invariant-loop-first
invariant-loop-first l = OthersNone (ends_in l.horizon l.ends) l.copy.set l.alive l.copy.pending

abbrev pub decreases-loop-first : goal.decreases-loop-first
decreases-loop-first l = size l.alive
