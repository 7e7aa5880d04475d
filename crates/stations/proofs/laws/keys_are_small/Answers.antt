use Rattle.stations.proofs.KeyLaws.{keys-small, log_keys-small}
use Rattle.stations.proofs.laws.keys_are_small.Goals as goal

pub returns-clause-all : goal.returns-clause-all
returns-clause-all c net valid = keys-small net valid

pub returns-clause-logs : goal.returns-clause-logs
returns-clause-logs c net valid = log_keys-small net valid
