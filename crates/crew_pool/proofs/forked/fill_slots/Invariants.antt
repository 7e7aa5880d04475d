use Rattle.std.proofs.Common.{◌≡◌}
use Rattle.std.specs.Prelude.{map}
use Rattle.crew_pool.specs.Slots.{slot_with}
use Rattle.crew_pool.proofs.forked.fill_slots.Given as goal

abbrev pub invariant-loop-item : goal.invariant-loop-item
invariant-loop-item g l = l.slots.items ≡ map slot_with l.yielded
