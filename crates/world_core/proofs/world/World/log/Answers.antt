use Rattle.std.proofs.Common.{◌∙◌}
use Rattle.world_core.proofs.world.World.log.Goals as goal

pub returns-clause-value : goal.returns-clause-value
returns-clause-value c = c.log.ensures.value ∙ c.copy.ensures.log c.args.who c.copy.ensures.is_in
