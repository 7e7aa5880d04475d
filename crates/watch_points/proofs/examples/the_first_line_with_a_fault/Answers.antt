use Rattle.std.proofs.Common.{refl}
use Rattle.decision_script.specs.Sentences.{one_value}
use Rattle.watch_points.specs.Reading.{after_line, after_lines}
use Rattle.watch_points.specs.Sentences.{least_and_change, named_watch}
use Rattle.watch_points.proofs.examples.the_first_line_with_a_fault.Goals as goal

pub returns-clause-first : goal.returns-clause-first
unfolding after_lines after_line named_watch least_and_change one_value
returns-clause-first c = refl

pub returns-clause-said : goal.returns-clause-said
unfolding named_watch least_and_change one_value
returns-clause-said c = refl

pub returns-clause-unsaid : goal.returns-clause-unsaid
unfolding named_watch least_and_change one_value
returns-clause-unsaid c = refl
