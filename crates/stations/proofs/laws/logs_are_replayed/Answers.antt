use Rattle.run_laws.proofs.Replaying.{replay_is_good}
use Rattle.stations.proofs.GoodLaws.{lawful-stations}
use Rattle.stations.proofs.ReplayLaws.{replay-counts, replay-suits, replay-fits, replay-goes_on}
use Rattle.stations.proofs.laws.logs_are_replayed.Goals as goal

pub returns-clause-good : goal.returns-clause-good
returns-clause-good c net valid = replay_is_good (lawful-stations net valid)

pub returns-clause-counted : goal.returns-clause-counted
returns-clause-counted c net = replay-counts net

pub returns-clause-suits : goal.returns-clause-suits
returns-clause-suits c net valid = replay-suits net valid

pub returns-clause-fits : goal.returns-clause-fits
returns-clause-fits c net valid = replay-fits net valid

pub returns-clause-goes_on : goal.returns-clause-goes_on
returns-clause-goes_on c net = replay-goes_on net
