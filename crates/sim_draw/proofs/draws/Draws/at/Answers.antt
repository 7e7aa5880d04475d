use Rattle.std.proofs.Common.{rules}
use Rattle.sim_draw.specs.Drawing.{generator}
use Rattle.sim_draw.proofs.draws.Draws.at.Goals as goal

pub invariant_of-result : goal.invariant_of-result
unfolding generator
invariant_of-result c = search rules
