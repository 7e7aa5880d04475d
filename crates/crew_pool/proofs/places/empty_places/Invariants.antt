use Rattle.std.proofs.Common.{◌≡◌, length}
use Rattle.crew_pool.specs.Calls.{AreIdle}
use Rattle.crew_pool.proofs.places.empty_places.Given as goal

abbrev pub invariant-loop-i : goal.invariant-loop-i
invariant-loop-i g l = (length l.places.items ≡ l._i) × AreIdle l.places.items
