use Rattle.std.proofs.Common.{◌≡◌}
use Rattle.base_tests.proofs.trace_writer_tests.fill.Given as goal

-- one log was added for each log so far
abbrev pub invariant-loop-log : goal.invariant-loop-log
invariant-loop-log g l = (l.cursor.logs ≡ l.log-index) × (l.cursor.most ≡ l.fn.cursor.most)
