use Rattle.run_laws.proofs.Delivery.{given_none, given_more, IsDelivered-SoFarGiven}
use Rattle.run_laws.proofs.laws.messages_are_delivered.Goals as goal

pub returns-clause-nothing : goal.returns-clause-nothing
returns-clause-nothing g c = λ has ends new. given_none g.T.Stations.sim has ends new

pub returns-clause-message : goal.returns-clause-message
returns-clause-message g c = λ has ends msgs new done next m k.
    given_more g.T.Stations.sim has ends g.T.Stations.lawful.order.order msgs new done next m k

pub returns-clause-delivered : goal.returns-clause-delivered
returns-clause-delivered g c = λ has cs s sent msgs new done.
    IsDelivered-SoFarGiven g.T.Stations.sim has cs s sent msgs new done
