use Rattle.std.proofs.Common.{◌≡◌, ◌≤◌, length}
use Rattle.run_laws.specs.SharedTexts.{station_sum}
use Rattle.stations.specs.Runs.{handled_once}
use Rattle.live_study.proofs.work.handled_in.Given as goal

abbrev pub invariant-loop-s : goal.invariant-loop-s
invariant-loop-s l = record {
  within : l.s ≤ length l.world.net.sites;
  sum : l.total ≡ station_sum (λ s. handled_once l.world.net l.world.clones s l.world.front) l.s;
}
