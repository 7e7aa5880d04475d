use Rattle.std.proofs.Common.{refl}
use Rattle.std.specs.Fmt.{digits}
use Rattle.journal_text.proofs.examples.script_of_four_calls.Goals as goal

pub returns : goal.returns
unfolding digits
returns c = refl
