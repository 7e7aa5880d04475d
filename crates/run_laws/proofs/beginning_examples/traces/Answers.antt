use Rattle.std.proofs.Common.{refl}
use Rattle.run_laws.specs.Machine.{run_to}
use Rattle.run_laws.proofs.beginning_examples.traces.Goals as goal

pub returns-clause-trace : goal.returns-clause-trace
unfolding run_to
returns-clause-trace c = refl
