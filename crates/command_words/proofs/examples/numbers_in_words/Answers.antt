use Rattle.std.proofs.Common.{refl}
use Rattle.command_words.specs.Rules.{values}
use Rattle.command_words.proofs.examples.numbers_in_words.Goals as goal

pub returns : goal.returns
unfolding values
returns c = refl
