use Rattle.run_laws.proofs.Late.{decision_adds_due, end_drops_due}
use Rattle.run_laws.proofs.laws.decisions_change_what_is_due.Goals as goal

pub returns-clause-decision : goal.returns-clause-decision
returns-clause-decision g c = decision_adds_due g.T.Stations.lawful

pub returns-clause-ending : goal.returns-clause-ending
returns-clause-ending g c = end_drops_due g.T.Stations.lawful
