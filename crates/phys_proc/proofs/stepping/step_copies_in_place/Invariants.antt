use Rattle.std.proofs.Common.{◌≡◌, ◌+◌, ◌-◌, ◌≤◌, length}
use Rattle.std.specs.List.{AllZip}
use Rattle.phys_proc.specs.StepGoals.{ends_for}
use Rattle.phys_proc.specs.Own.{IsLowerBound}
use Rattle.phys_proc.proofs.InPlace.{IsSteppedTo}
use Rattle.phys_proc.proofs.stepping.step_copies_in_place.Given as goal

abbrev pub invariant-loop-i : goal.invariant-loop-i
invariant-loop-i g l = record {
  far : IsSteppedTo l.goal.model.now l.goal.station (ends_for l.goal) l.goal.bound l.fn.copies.items l.i l.copies.items
      l.stage.done l.stage.sent l.stage.over l.fn.steps l.steps;
  each : AllZip IsLowerBound l.bounds.items l.copies.items;
  within : l.i ≤ length l.copies.items;
  handled : l.stage.handled + l.fn.steps ≡ l.steps;
}

abbrev pub decreases-loop-i : goal.decreases-loop-i
decreases-loop-i g l = length l.copies.items - l.i
