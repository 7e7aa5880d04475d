use Rattle.std.proofs.Common.{◌≡◌, take}
use Rattle.stations.specs.Sending.{weights_of}
use Rattle.stations.proofs.sender.link_weights.Given as goal

abbrev pub invariant-loop-link : goal.invariant-loop-link
invariant-loop-link l = l.weights.items ≡ weights_of (take l.link-index l.links)
