use Rattle.std.proofs.Common.{refl, ◌<◌, lit<, arith}
use Rattle.run_laws.specs.Machine.{run_to}
use Rattle.run_laws.proofs.examples.counts.Goals as goal

pub returns-clause-copies_of_1 : goal.returns-clause-copies_of_1
unfolding run_to
returns-clause-copies_of_1 c = refl

pub returns-clause-handled_of_1 : goal.returns-clause-handled_of_1
unfolding run_to
returns-clause-handled_of_1 c = refl

pub returns-clause-alone_of_1 : goal.returns-clause-alone_of_1
unfolding run_to
returns-clause-alone_of_1 c = refl

pub returns-clause-copies_of_2 : goal.returns-clause-copies_of_2
unfolding run_to
returns-clause-copies_of_2 c = refl

pub returns-clause-handled_of_2 : goal.returns-clause-handled_of_2
unfolding run_to
returns-clause-handled_of_2 c = refl

pub returns-clause-alone_of_2 : goal.returns-clause-alone_of_2
unfolding run_to
returns-clause-alone_of_2 c = refl

pub returns-clause-beyond : goal.returns-clause-beyond
unfolding run_to
returns-clause-beyond c = lit< tt

pub returns-clause-within : goal.returns-clause-within
unfolding run_to
returns-clause-within c = λ h. let never : 2 < 2 = h in omega arith

pub returns-clause-handled_to_the_limit_of_1 : goal.returns-clause-handled_to_the_limit_of_1
unfolding run_to
returns-clause-handled_to_the_limit_of_1 c = refl

pub returns-clause-handled_with_twin : goal.returns-clause-handled_with_twin
unfolding run_to
returns-clause-handled_with_twin c = refl

pub returns-clause-alone_with_twin : goal.returns-clause-alone_with_twin
unfolding run_to
returns-clause-alone_with_twin c = refl
