use Rattle.phys_proc.specs.Ends.{ends_in}
use Rattle.world_core.proofs.DueTimes.{IsLeastTo}
use Rattle.world_core.proofs.world.World.least.Given as goal

abbrev pub invariant-loop-i : goal.invariant-loop-i
invariant-loop-i l = IsLeastTo (ends_in l.stations.model.value.horizon l.stations.ends)
    l.stations.procs.items l.i l.least
