use Rattle.std.proofs.Common.{refl}
use Rattle.watch_points.specs.Checking.{fit_after}
use Rattle.watch_points.proofs.examples.watches_that_do_not_fit.Goals as goal

pub returns-clause-fits : goal.returns-clause-fits
unfolding fit_after
returns-clause-fits c = refl

pub returns-clause-unknown_clone : goal.returns-clause-unknown_clone
unfolding fit_after
returns-clause-unknown_clone c = refl

pub returns-clause-ended : goal.returns-clause-ended
unfolding fit_after
returns-clause-ended c = refl

pub returns-clause-taken : goal.returns-clause-taken
unfolding fit_after
returns-clause-taken c = refl

pub returns-clause-taken_by_branch : goal.returns-clause-taken_by_branch
unfolding fit_after
returns-clause-taken_by_branch c = refl

pub returns-clause-station : goal.returns-clause-station
unfolding fit_after
returns-clause-station c = refl

pub returns-clause-target : goal.returns-clause-target
unfolding fit_after
returns-clause-target c = refl

pub returns-clause-source : goal.returns-clause-source
unfolding fit_after
returns-clause-source c = refl

pub returns-clause-parameter : goal.returns-clause-parameter
unfolding fit_after
returns-clause-parameter c = refl

pub returns-clause-range : goal.returns-clause-range
unfolding fit_after
returns-clause-range c = refl
