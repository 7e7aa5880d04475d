use Rattle.std.proofs.Common.{refl}
use Rattle.command_words.specs.Rules.{values}
use Rattle.command_words.proofs.examples.the_modes.Goals as goal

pub returns : goal.returns
unfolding values
returns c = refl
