use Rattle.std.proofs.Common.{◌≡◌, ◌≤◌, length}
use Rattle.queue_stats.specs.Rows.{server_count}
use Rattle.queue_stats.proofs.rows.server_count.Given as goal

abbrev pub invariant-loop-s : goal.invariant-loop-s
invariant-loop-s l = record {
  count : l.count ≡ server_count l.model l.s;
  count_max : l.count ≤ l.s;
  within : l.s ≤ length l.model.sites;
}
