use Rattle.sim_base.proofs.SamePlans.{same_plan-Decides}
use Rattle.sim_base.proofs.laws.plans_are_told_apart.Goals as goal

pub returns : goal.returns
returns c = record { equal = same_plan-Decides }
