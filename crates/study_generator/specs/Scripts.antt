-- The script of every made study: sixteen plans, each a fork of an earlier one with a faster first ward.
use Rattle.std.specs.Prelude.{ℕ, ◌+◌, ◌*◌, ◌/◌, ◌-◌, ◌==◌, if◌then◌else◌, List, [], ◌∷◌, ◌++◌, codes, decimal}
use Rattle.std.specs.List.{flat_map, range_with_len}
use Rattle.sim_base.specs.declared.decision.Decision.{Decision}
use Rattle.sim_base.specs.declared.decision.Decision.TheVariants.{Fork, Set}
use Rattle.sim_base.specs.declared.message.Change.{Change}
use Rattle.sim_base.specs.declared.message.Param.TheVariants.{Service}
use Rattle.decision_script.specs.declared.item.Act.TheVariants.{Decide}
use Rattle.decision_script.specs.declared.item.Item.{Item}
use Rattle.decision_script.specs.Stating.{ScriptView}
use Rattle.study_generator.specs.Numbers.{ward_name}
use Rattle.study_generator.specs.declared.script.TheConstants.{PLANS}

-- the name of plan j
abbrev pub plan_name : ℕ → List ℕ
plan_name j = codes "plan" ++ decimal j

-- the parent of a plan: the base for the first, and the plan with half its number for each other
abbrev pub parent : ℕ → List ℕ
parent j = if j == 1 then codes "base" else plan_name (j / 2)

-- the fork that makes a plan
abbrev pub fork_of_plan : ℕ → Decision
fork_of_plan j = Fork (plan_name j) (parent j)

-- the time when a plan changes the first ward
abbrev pub time_of_plan : ℕ → ℕ
time_of_plan j = 100 * j

-- its change: the ward serves a patient for 1 to 2 + j
abbrev pub change_of_plan : ℕ → Change
change_of_plan j = record { param = Service; a = 1; b = 2 + j }

-- the set that makes this change
abbrev pub set_of_plan : ℕ → Decision
set_of_plan j = Set (plan_name j) (time_of_plan j) (ward_name 1) (change_of_plan j)

-- two lines for a plan, both of the analyst main
abbrev pub items_of_plan : ℕ → List Item
items_of_plan j =
    record { line = 2 * j - 1; analyst = 1; act = Decide (fork_of_plan j) }
    ∷ record { line = 2 * j; analyst = 1; act = Decide (set_of_plan j) } ∷ []

-- the made script
abbrev pub made_script : ScriptView
made_script = record {
  analysts = codes "main" ∷ [];
  items = flat_map items_of_plan (range_with_len 1 PLANS);
}
