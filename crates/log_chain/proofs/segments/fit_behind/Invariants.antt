use Rattle.std.proofs.Common.{◌≡◌, ◌+◌, ◌≤◌, length, drop}
use Rattle.log_chain.specs.Segments.{entries_in}
use Rattle.log_chain.proofs.segments.fit_behind.Given as goal

abbrev pub invariant-loop-before : goal.invariant-loop-before
invariant-loop-before l = record {
  within : l.before ≤ length l.segments;
  size : l.size ≡ length (entries_in (drop l.before l.segments)) + l.fn.size;
}

abbrev pub decreases-loop-before : goal.decreases-loop-before
decreases-loop-before l = l.before
