use Rattle.std.proofs.Common.{refl}
use Rattle.checkpoint.proofs.examples.first_unfit_station.Goals as goal

pub returns-clause-first : goal.returns-clause-first
returns-clause-first c = refl

pub returns-clause-before : goal.returns-clause-before
returns-clause-before c = refl

pub returns-clause-unfit : goal.returns-clause-unfit
returns-clause-unfit c = refl
