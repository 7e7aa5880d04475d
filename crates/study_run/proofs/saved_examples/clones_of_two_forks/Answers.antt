use Rattle.std.proofs.Common.{refl}
use Rattle.study_run.proofs.saved_examples.clones_of_two_forks.Goals as goal

pub returns-clause-accepted : goal.returns-clause-accepted
returns-clause-accepted c = refl

pub returns-clause-refused : goal.returns-clause-refused
returns-clause-refused c = refl
