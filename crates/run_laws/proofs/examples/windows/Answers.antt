use Rattle.std.proofs.Common.{refl}
use Rattle.run_laws.specs.Machine.{run_to}
use Rattle.run_laws.proofs.examples.windows.Goals as goal

pub returns-clause-log : goal.returns-clause-log
unfolding run_to
returns-clause-log c = refl

pub returns-clause-nothing_aside : goal.returns-clause-nothing_aside
unfolding run_to
returns-clause-nothing_aside c = refl

pub returns-clause-aside : goal.returns-clause-aside
unfolding run_to
returns-clause-aside c = refl

pub returns-clause-ended : goal.returns-clause-ended
unfolding run_to
returns-clause-ended c = refl

pub returns-clause-due : goal.returns-clause-due
unfolding run_to
returns-clause-due c = refl

pub returns-clause-due_before_end : goal.returns-clause-due_before_end
unfolding run_to
returns-clause-due_before_end c = refl
