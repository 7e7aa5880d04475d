use Rattle.std.proofs.Common.{refl}
use Rattle.std.specs.Fmt.{digits}
use Rattle.journal_text.proofs.examples.texts_of_looks.Goals as goal

pub returns : goal.returns
unfolding digits
returns c = refl
