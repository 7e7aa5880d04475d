use Rattle.std.proofs.Common.{refl}
use Rattle.std.specs.Fmt.{digits}
use Rattle.queue_stats.proofs.examples.texts.Goals as goal

pub returns-clause-two_rows : goal.returns-clause-two_rows
unfolding digits
returns-clause-two_rows c = refl
