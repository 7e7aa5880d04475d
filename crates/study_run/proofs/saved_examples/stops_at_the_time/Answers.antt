use Rattle.std.proofs.Common.{refl}
use Rattle.study_run.proofs.saved_examples.stops_at_the_time.Goals as goal

pub returns-clause-before : goal.returns-clause-before
returns-clause-before c = refl

pub returns-clause-after : goal.returns-clause-after
returns-clause-after c = refl
