use Rattle.std.proofs.Common.{◌≡◌}
use Rattle.base_tests.proofs.trace_writer_tests.gives.Given as goal

-- the places are unchanged
abbrev pub invariant-loop-pair : goal.invariant-loop-pair
invariant-loop-pair g l = l.cursor.most ≡ l.fn.cursor.most
