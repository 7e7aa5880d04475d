use Rattle.std.proofs.Common.{refl}
use Rattle.run_laws.specs.Machine.{run_to}
use Rattle.run_laws.proofs.examples.due_times.Goals as goal

pub returns-clause-clone : goal.returns-clause-clone
unfolding run_to
returns-clause-clone c = refl

pub returns-clause-stations : goal.returns-clause-stations
unfolding run_to
returns-clause-stations c = refl

pub returns-clause-after_its_end : goal.returns-clause-after_its_end
unfolding run_to
returns-clause-after_its_end c = refl

pub returns-clause-all : goal.returns-clause-all
unfolding run_to
returns-clause-all c = refl
