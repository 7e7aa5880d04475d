use Rattle.std.proofs.Common.{◌∙◌, ap}
use Rattle.decision_desk.specs.Desks.{desk_id}
use Rattle.world_core.specs.Worlds.{opening_world}
use Rattle.live_study.proofs.Begun.{begins_in_step}
use Rattle.engine_tests.proofs.decision_desk_tests.begin_world_with_desk.Goals as goal

pub returns-clause-in_step : goal.returns-clause-in_step
returns-clause-in_step c =
    begins_in_step (desk_id c.in_ok-desk.desk) _ _ c.in_ok-desk.helm c.in_ok-world.world c.in_ok-desk.ensures.helm
    (c.in_ok-world.ensures.begins ∙ ap opening_world c.in_ok-try_clone.ensures)
