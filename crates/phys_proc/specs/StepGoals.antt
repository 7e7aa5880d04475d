-- The goal of a step.
use Rattle.std.specs.Prelude.{ℕ}
use Rattle.phys_proc.specs.Ends.{ends_in}
use Rattle.phys_proc.specs.declared.step_goal.StepGoal.{StepGoal}

-- when each clone ends, if its station is stepped to this goal
abbrev pub ends_for : StepGoal → ℕ → ℕ
ends_for goal = ends_in goal.model.now.horizon goal.ends.now
