use Rattle.watch_points.proofs.FollowedClones.{figures_are_the_same, total_is_the_same}
use Rattle.watch_points.proofs.laws.figures_ignore_order.Goals as goal

pub returns-clause-figures : goal.returns-clause-figures
returns-clause-figures c = figures_are_the_same

pub returns-clause-total : goal.returns-clause-total
returns-clause-total c = total_is_the_same
