use Rattle.clone_sets.specs.Sets.{size}
use Rattle.phys_proc.proofs.advancing.+bring_to_bound.Given as goal

abbrev pub decreases-bring_to_bound : goal.decreases-bring_to_bound
decreases-bring_to_bound g l = size l.copy.set
