use Rattle.std.proofs.Common.{◌≡◌, take}
use Rattle.stations.proofs.state.copy_weights.Given as goal

abbrev pub invariant-loop-weight : goal.invariant-loop-weight
invariant-loop-weight l = l.copied.items ≡ take l.weight-index l.weights
