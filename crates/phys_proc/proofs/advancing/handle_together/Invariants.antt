use Rattle.std.proofs.Common.{◌≡◌, ◌+◌, ◌-◌, length}
use Rattle.phys_proc.specs.StepGoals.{ends_for}
use Rattle.phys_proc.specs.Own.{ComesFrom}
use Rattle.phys_proc.proofs.advancing.handle_together.Given as goal

abbrev pub invariant-loop-count : goal.invariant-loop-count
invariant-loop-count g l = record {
  onward : ComesFrom l.goal.model.now l.goal.station (ends_for l.goal) l.goal.bound l.fn.copy l.copy l.fn.stage.sent
      l.stage.sent l.fn.steps l.steps;
  done : l.stage.done ≡ l.fn.stage.done;
  over : l.stage.over ≡ l.fn.stage.over;
  handled : l.stage.handled + l.fn.steps ≡ l.fn.stage.handled + l.steps;
}

abbrev pub decreases-loop-count : goal.decreases-loop-count
decreases-loop-count g l = l.goal.model.now.limit - length l.copy.log
