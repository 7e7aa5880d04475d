use Rattle.base_tests.specs.States.{IsStateOf}
use Rattle.base_tests.proofs.stations_tests.waiting.follow.Given as goal

abbrev pub invariant-loop-event : goal.invariant-loop-event
invariant-loop-event g l = IsStateOf l.model 3 l.state
