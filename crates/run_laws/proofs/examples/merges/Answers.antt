use Rattle.std.proofs.Common.{refl}
use Rattle.run_laws.specs.Machine.{run_to}
use Rattle.run_laws.proofs.examples.merges.Goals as goal

pub returns-clause-busy : goal.returns-clause-busy
unfolding run_to
returns-clause-busy c = refl

pub returns-clause-last_minute : goal.returns-clause-last_minute
unfolding run_to
returns-clause-last_minute c = refl
