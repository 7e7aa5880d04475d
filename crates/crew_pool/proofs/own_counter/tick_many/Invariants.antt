use Rattle.std.proofs.Common.{◌≡◌, ◌+◌}
use Rattle.crew_pool.proofs.own_counter.tick_many.Given as goal

abbrev pub invariant-loop-i : goal.invariant-loop-i
invariant-loop-i g l = l.steps ≡ l.initial.steps + l._i
