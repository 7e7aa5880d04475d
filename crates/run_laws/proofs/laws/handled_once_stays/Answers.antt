use Rattle.run_laws.proofs.HandledStays.{handled-0, handled-added, handled-ended, handled-forked}
use Rattle.run_laws.proofs.laws.handled_once_stays.Goals as goal

pub returns-clause-first : goal.returns-clause-first
returns-clause-first g c = handled-0 g.T.Stations.sim

pub returns-clause-decision : goal.returns-clause-decision
returns-clause-decision g c = handled-added g.T.Stations.lawful

pub returns-clause-ending : goal.returns-clause-ending
returns-clause-ending g c = handled-ended g.T.Stations.lawful

pub returns-clause-forking : goal.returns-clause-forking
returns-clause-forking g c = λ same cs front s old name decides may.
    handled-forked g.T.Stations.sim same decides cs name old s front may
