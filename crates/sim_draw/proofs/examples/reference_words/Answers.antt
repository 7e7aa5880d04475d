use Rattle.std.proofs.Common.{refl}
use Rattle.rand_pcg.specs.Lcg.{state_after}
use Rattle.sim_draw.specs.Drawing.{word, generator}
use Rattle.sim_draw.proofs.examples.reference_words.Goals as goal

pub returns-clause-first : goal.returns-clause-first
unfolding word generator state_after
returns-clause-first c = refl

pub returns-clause-second : goal.returns-clause-second
unfolding word generator state_after
returns-clause-second c = refl

pub returns-clause-third : goal.returns-clause-third
unfolding word generator state_after
returns-clause-third c = refl
