use Rattle.std.proofs.Common.{◌≡◌, take}
use Rattle.stations.proofs.restoring.queue_of.Given as goal

abbrev pub invariant-loop-place : goal.invariant-loop-place
invariant-loop-place l = l.queue ≡ take l.place l.line
