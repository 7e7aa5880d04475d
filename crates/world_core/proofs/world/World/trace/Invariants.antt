use Rattle.std.proofs.Common.{◌≡◌}
use Rattle.sim_base.specs.Clones.{clone_at}
use Rattle.stations.specs.Runs.{simulation}
use Rattle.stations.specs.Good.{sender_of, number_of}
use Rattle.run_laws.specs.Merges.{merge_of_logs}
use Rattle.world_core.proofs.world.World.trace.Given as goal

abbrev pub invariant-loop-i : goal.invariant-loop-i
invariant-loop-i l = l.trace.items
    ≡ merge_of_logs (simulation l.self.net) sender_of number_of (clone_at l.self.clones l.who) l.self.front l.i
