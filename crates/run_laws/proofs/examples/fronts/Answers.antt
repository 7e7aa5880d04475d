use Rattle.std.proofs.Common.{refl, lit<}
use Rattle.run_laws.specs.Machine.{run_to}
use Rattle.run_laws.proofs.examples.fronts.Goals as goal

pub returns-clause-plain : goal.returns-clause-plain
unfolding run_to
returns-clause-plain c = (lit< tt, refl, (lit< tt, refl, (lit< tt, refl, (lit< tt, refl, refl))))

pub returns-clause-all : goal.returns-clause-all
unfolding run_to
returns-clause-all c = (lit< tt, refl, (lit< tt, refl, (lit< tt, refl, (lit< tt, refl, refl))))

pub returns-clause-ended : goal.returns-clause-ended
unfolding run_to
returns-clause-ended c = (lit< tt, refl, (lit< tt, refl, (lit< tt, refl, refl)))
