use Rattle.base_tests.specs.States.{IsStateOf}
use Rattle.base_tests.proofs.stations_tests.answers.Given as goal

abbrev pub invariant-loop-row : goal.invariant-loop-row
invariant-loop-row g l = IsStateOf l.model l.station l.state
