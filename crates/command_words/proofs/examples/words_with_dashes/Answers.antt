use Rattle.std.proofs.Common.{refl}
use Rattle.command_words.specs.Rules.{values}
use Rattle.command_words.proofs.examples.words_with_dashes.Goals as goal

pub returns : goal.returns
unfolding values
returns c = refl
