use Rattle.std.proofs.Common.{refl}
use Rattle.run_laws.specs.Machine.{run_to}
use Rattle.run_laws.proofs.beginning_examples.beginnings.Goals as goal

pub returns-clause-kept : goal.returns-clause-kept
unfolding run_to
returns-clause-kept c = refl

pub returns-clause-merged : goal.returns-clause-merged
unfolding run_to
returns-clause-merged c = refl
