use Rattle.std.proofs.Common.{◌≡◌, Some}
use Rattle.std.specs.Prelude.{map}
use Rattle.crew_pool.specs.Slots.{answer_in}
use Rattle.crew_pool.proofs.forked.take_answers.Given as goal

abbrev pub invariant-loop-slot : goal.invariant-loop-slot
invariant-loop-slot g l = map answer_in l.yielded ≡ map Some l.outs.items
