use Rattle.std.proofs.Common.{◌≡◌, ◌≤◌, length}
use Rattle.queue_stats.specs.Rows.{rows_before}
use Rattle.queue_stats.proofs.rows.push_clone.Given as goal

abbrev pub invariant-loop-s : goal.invariant-loop-s
invariant-loop-s l = record {
  so_far : l.out.items ≡ rows_before l.model l.world.clones l.clone l.s;
  within : l.s ≤ length l.model.sites;
}
