use Rattle.std.proofs.Common.{◌≡◌, drop}
use Rattle.stations.specs.Servers.{least_class, least_in}
use Rattle.stations.proofs.server.least_waiting.Given as goal

abbrev pub invariant-loop-place : goal.invariant-loop-place
invariant-loop-place l = least_class l.model l.least (drop l.place l.jobs) ≡ least_in l.model l.jobs
