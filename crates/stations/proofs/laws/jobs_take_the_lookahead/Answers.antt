use Rattle.stations.proofs.ReplayLaws.{jobs-take_lookahead}
use Rattle.stations.proofs.laws.jobs_take_the_lookahead.Goals as goal

pub returns : goal.returns
returns c = record { later = λ net valid. jobs-take_lookahead net valid }
