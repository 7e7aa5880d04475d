use Rattle.std.proofs.Common.{◌≡◌, ℕ, ◌<◌, Some, slice_get}
use Rattle.clone_sets.specs.Sets.{empty}
use Rattle.station_steps.specs.declared.station_step.StationStep.{StationStep}
use Rattle.station_steps.proofs.stepping.first_over.Given as goal

abbrev pub invariant-loop-i : goal.invariant-loop-i
invariant-loop-i l = (j : ℕ) (f : StationStep) → j < l.i → slice_get l.flows j ≡ Some f → f.over ≡ empty
