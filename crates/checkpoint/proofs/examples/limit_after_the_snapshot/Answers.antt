use Rattle.std.proofs.Common.{refl}
use Rattle.checkpoint.proofs.examples.limit_after_the_snapshot.Goals as goal

pub returns-clause-found : goal.returns-clause-found
returns-clause-found c = refl

pub returns-clause-three : goal.returns-clause-three
returns-clause-three c = refl

pub returns-clause-four : goal.returns-clause-four
returns-clause-four c = refl
