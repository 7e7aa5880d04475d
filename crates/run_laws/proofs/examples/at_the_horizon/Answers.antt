use Rattle.std.proofs.Common.{refl, lit<}
use Rattle.run_laws.specs.Machine.{run_to}
use Rattle.run_laws.proofs.examples.at_the_horizon.Goals as goal

pub returns-clause-trace : goal.returns-clause-trace
unfolding run_to
returns-clause-trace c = refl

pub returns-clause-due : goal.returns-clause-due
unfolding run_to
returns-clause-due c = refl

pub returns-clause-nothing_left : goal.returns-clause-nothing_left
unfolding run_to
returns-clause-nothing_left c = refl

pub returns-clause-fronts : goal.returns-clause-fronts
unfolding run_to
returns-clause-fronts c = (lit< tt, refl, (lit< tt, refl, (lit< tt, refl, (lit< tt, refl, refl))))
