use Rattle.std.proofs.Common.{◌∙◌}
use Rattle.sim_draw.proofs.Words.{generator-new}
use Rattle.sim_draw.proofs.draws.Draws.new.Goals as goal

pub invariant_of-result : goal.invariant_of-result
invariant_of-result c = c.new.ensures ∙ generator-new _ _
