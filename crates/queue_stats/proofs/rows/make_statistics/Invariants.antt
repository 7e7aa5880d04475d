use Rattle.std.proofs.Common.{◌≡◌, ◌≤◌, length, take}
use Rattle.queue_stats.specs.Rows.{rows}
use Rattle.queue_stats.proofs.rows.make_statistics.Given as goal

abbrev pub invariant-loop-clone : goal.invariant-loop-clone
invariant-loop-clone l = record {
  so_far : l.rows.items ≡ rows l.model (take l.clone l.world.clones);
  within : l.clone ≤ length l.world.clones;
}
