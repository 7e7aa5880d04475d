use Rattle.std.proofs.Common.{◌≡◌, take}
use Rattle.stations.proofs.saving.line_of.Given as goal

abbrev pub invariant-loop-place : goal.invariant-loop-place
invariant-loop-place l = l.jobs.items ≡ take l.place l.queue
