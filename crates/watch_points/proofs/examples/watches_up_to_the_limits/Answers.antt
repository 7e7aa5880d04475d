use Rattle.std.proofs.Common.{refl}
use Rattle.watch_points.specs.Checking.{fit_after}
use Rattle.watch_points.proofs.examples.watches_up_to_the_limits.Goals as goal

pub returns-clause-clones_fit : goal.returns-clause-clones_fit
unfolding fit_after
returns-clause-clones_fit c = refl

pub returns-clause-clones_do_not : goal.returns-clause-clones_do_not
unfolding fit_after
returns-clause-clones_do_not c = refl

pub returns-clause-decisions_fit : goal.returns-clause-decisions_fit
unfolding fit_after
returns-clause-decisions_fit c = refl

pub returns-clause-decisions_do_not : goal.returns-clause-decisions_do_not
unfolding fit_after
returns-clause-decisions_do_not c = refl
