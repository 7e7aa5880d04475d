use Rattle.std.proofs.Common.{◌≡◌, ◌≤◌, length}
use Rattle.sim_base.specs.Clones.{clone_at}
use Rattle.stations.specs.Runs.{simulation}
use Rattle.run_laws.specs.FrontLaws.{least_to}
use Rattle.world_core.proofs.world.World.least_of.Given as goal

abbrev pub invariant-loop-i : goal.invariant-loop-i
invariant-loop-i l = record {
  within : l.i ≤ length l.stations.procs.items;
  least : l.least ≡ least_to (simulation l.self.net) (clone_at l.self.clones l.c) l.self.front l.i;
}
