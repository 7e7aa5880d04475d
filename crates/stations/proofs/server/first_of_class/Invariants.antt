use Rattle.std.proofs.Common.{◌≡◌, ◌+◌, drop}
use Rattle.stations.specs.Servers.{place_of_class}
use Rattle.stations.proofs.server.first_of_class.Given as goal

abbrev pub invariant-loop-place : goal.invariant-loop-place
invariant-loop-place l = place_of_class l.model l.class l.jobs ≡ l.place + place_of_class l.model l.class
    (drop l.place l.jobs)
