use Rattle.std.proofs.Common.{◌≡◌}
use Rattle.engine_tests.proofs.decision_desk_tests.ask.Given as goal

abbrev pub invariant-loop-i : goal.invariant-loop-i
invariant-loop-i g l = l.pass.desk ≡ l.initial.pass.desk
