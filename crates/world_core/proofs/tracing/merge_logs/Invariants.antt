use Rattle.std.proofs.Common.{◌≡◌, ◌≤◌, ◌++◌, ◌+◌, ◌-◌, length, drop}
use Rattle.run_laws.specs.Merges.{merge}
use Rattle.world_core.specs.Tracing.{by_key}
use Rattle.world_core.proofs.tracing.merge_logs.Given as goal

abbrev pub invariant-loop-i : goal.invariant-loop-i
invariant-loop-i l = record {
  first : l.i ≤ length l.xs;
  second : l.j ≤ length l.ys;
  so_far : l.out.items ++ merge by_key (drop l.i l.xs) (drop l.j l.ys) ≡ merge by_key l.xs l.ys;
}

abbrev pub decreases-loop-i : goal.decreases-loop-i
decreases-loop-i l = (length l.xs - l.i) + (length l.ys - l.j)
