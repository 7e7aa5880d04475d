use Rattle.std.proofs.Common.{◌≡◌, ◌+◌}
use Rattle.live_study.proofs.work.tick_often.Given as goal

abbrev pub invariant-loop-i : goal.invariant-loop-i
invariant-loop-i g l = l.steps ≡ l.fn.steps + l._i
