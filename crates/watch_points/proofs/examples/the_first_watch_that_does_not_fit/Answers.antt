use Rattle.std.proofs.Common.{refl}
use Rattle.watch_points.specs.Checking.{fit_after}
use Rattle.watch_points.proofs.examples.the_first_watch_that_does_not_fit.Goals as goal

pub returns-clause-first : goal.returns-clause-first
unfolding fit_after
returns-clause-first c = refl

pub returns-clause-accepted : goal.returns-clause-accepted
returns-clause-accepted c = refl

pub returns-clause-refused : goal.returns-clause-refused
returns-clause-refused c = refl

pub returns-clause-later : goal.returns-clause-later
returns-clause-later c = refl
