use Rattle.std.proofs.Common.{refl}
use Rattle.command_words.specs.Rules.{values}
use Rattle.command_words.proofs.examples.number_of_positionals.Goals as goal

pub returns : goal.returns
unfolding values
returns c = refl
