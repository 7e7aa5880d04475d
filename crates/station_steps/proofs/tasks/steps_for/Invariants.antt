use Rattle.station_steps.specs.Tasks.{AreSteps}
use Rattle.station_steps.proofs.tasks.steps_for.Given as goal

abbrev pub invariant-loop-proc : goal.invariant-loop-proc
invariant-loop-proc l = AreSteps l.yielded l.bounds l.tasks.items
