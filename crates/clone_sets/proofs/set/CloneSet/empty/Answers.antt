use Rattle.std.proofs.Common.{refl}
use Rattle.clone_sets.specs.Words.{above_word}
use Rattle.clone_sets.proofs.set.CloneSet.empty.Goals as goal

pub returns : goal.returns
unfolding above_word
returns c = refl
