use Rattle.study_generator.proofs.Accepting.{all_accepted, clones_left}
use Rattle.study_generator.proofs.examples.decisions_are_accepted.Goals as goal

pub returns-clause-accepted : goal.returns-clause-accepted
returns-clause-accepted c = all_accepted

pub returns-clause-clones : goal.returns-clause-clones
returns-clause-clones c = clones_left
