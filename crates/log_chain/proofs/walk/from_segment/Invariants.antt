use Rattle.std.proofs.Common.{◌≡◌, ◌+◌, length, take}
use Rattle.log_chain.specs.Segments.{entries_in}
use Rattle.log_chain.proofs.walk.from_segment.Given as goal

abbrev pub invariant-loop-i : goal.invariant-loop-i
invariant-loop-i l = l.at ≡ length (entries_in (take l.i l.segments)) + l.left
