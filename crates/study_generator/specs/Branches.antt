-- The clones of the made script.
use Rattle.std.specs.Prelude.{ℕ, zero, suc, ◌/◌, ◌==◌, if◌then◌else◌, List, [], ◌∷◌, ◌++◌, None, map}
use Rattle.std.specs.List.{range_with_len}
use Rattle.sim_base.specs.declared.decision.Planned.{Planned}
use Rattle.sim_base.specs.Clones.{Clone, base}
use Rattle.study_generator.specs.Scripts.{change_of_plan, plan_name, time_of_plan}

-- a plan's own decision: the first ward is station 3
abbrev pub own_decision : ℕ → Planned
own_decision j = record { at = time_of_plan j; station = 3; change = change_of_plan j }

-- the decisions of a plan and its nearest ancestors, the earliest first; their number is bounded
abbrev pub last_decisions : ℕ → ℕ → List Planned
last_decisions zero j = []
last_decisions (suc more) j = if j == 0 then [] else (last_decisions more (j / 2) ++ own_decision j ∷ [])

-- the clone of a plan: it has the decisions of all its ancestors, and its own
abbrev pub clone_of_plan : ℕ → Clone
clone_of_plan j = record { name = plan_name j; plans = last_decisions j j; end = None }

-- the base, and the clones of `count` plans
abbrev pub clones_of_plans : ℕ → List Clone
clones_of_plans count = base ∷ map clone_of_plan (range_with_len 1 count)
