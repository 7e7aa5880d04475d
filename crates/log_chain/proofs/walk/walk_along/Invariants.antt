use Rattle.std.proofs.Common.{◌≡◌, drop}
use Rattle.log_chain.specs.Segments.{entries_in}
use Rattle.log_chain.proofs.walk.walk_along.Given as goal

abbrev pub invariant-loop-i : goal.invariant-loop-i
invariant-loop-i l = entries_in (drop l.i l.segments) ≡ entries_in l.segments
