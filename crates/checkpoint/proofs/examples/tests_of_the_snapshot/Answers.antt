use Rattle.std.proofs.Common.{refl}
use Rattle.checkpoint.proofs.examples.tests_of_the_snapshot.Goals as goal

pub returns-clause-fit : goal.returns-clause-fit
returns-clause-fit c = refl

pub returns-clause-due : goal.returns-clause-due
returns-clause-due c = refl

pub returns-clause-lines : goal.returns-clause-lines
returns-clause-lines c = refl
