use Rattle.std.proofs.Common.{◌≡◌, length, ◌+◌}
use Rattle.crew_pool.specs.Calls.{AreIdle}
use Rattle.crew_pool.proofs.idle.IdleCrew.begin.Given as goal

abbrev pub invariant-loop-number : goal.invariant-loop-number
invariant-loop-number g l = (length l.callers.items + 1 ≡ l.number) × AreIdle l.callers.items
