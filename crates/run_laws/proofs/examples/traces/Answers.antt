use Rattle.std.proofs.Common.{refl}
use Rattle.run_laws.specs.Machine.{run_to}
use Rattle.run_laws.proofs.examples.traces.Goals as goal

pub returns-clause-plain : goal.returns-clause-plain
unfolding run_to
returns-clause-plain c = refl

pub returns-clause-busy : goal.returns-clause-busy
unfolding run_to
returns-clause-busy c = refl

pub returns-clause-ended : goal.returns-clause-ended
unfolding run_to
returns-clause-ended c = refl
