use Rattle.std.proofs.Common.{refl}
use Rattle.decision_script.specs.Sentences.{one_value}
use Rattle.watch_points.specs.Reading.{after_line, after_lines}
use Rattle.watch_points.specs.Sentences.{least_and_change, named_watch}
use Rattle.watch_points.proofs.examples.lines_that_are_read.Goals as goal

pub returns-clause-one : goal.returns-clause-one
unfolding after_lines after_line named_watch least_and_change one_value
returns-clause-one c = refl

pub returns-clause-none : goal.returns-clause-none
unfolding after_lines after_line named_watch least_and_change one_value
returns-clause-none c = refl

pub returns-clause-number : goal.returns-clause-number
unfolding after_lines after_line named_watch least_and_change one_value
returns-clause-number c = refl

pub returns-clause-form : goal.returns-clause-form
unfolding after_lines after_line named_watch least_and_change one_value
returns-clause-form c = refl

pub returns-clause-keyword : goal.returns-clause-keyword
unfolding after_lines after_line named_watch least_and_change one_value
returns-clause-keyword c = refl

pub returns-clause-decision : goal.returns-clause-decision
unfolding after_lines after_line named_watch least_and_change one_value
returns-clause-decision c = refl

pub returns-clause-ascii : goal.returns-clause-ascii
unfolding after_lines after_line named_watch least_and_change one_value
returns-clause-ascii c = refl
