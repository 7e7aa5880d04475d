use Rattle.stations.proofs.ReplayLaws.{sends-next_numbers, numbers-small}
use Rattle.stations.proofs.laws.sends_are_numbered.Goals as goal

pub returns-clause-next : goal.returns-clause-next
returns-clause-next c net valid = sends-next_numbers net valid

pub returns-clause-small : goal.returns-clause-small
returns-clause-small c net valid = numbers-small net valid
