use Rattle.std.proofs.Common.{◌≡◌, length}
use Rattle.engine_tests.proofs.crew_pool_tests.items.Given as goal

abbrev pub invariant-loop-i : goal.invariant-loop-i
invariant-loop-i l = length l.items.items ≡ l.i
