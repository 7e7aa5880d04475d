use Rattle.run_laws.proofs.SharedTextsAgreeing.{traces_agree, agree_to_parting}
use Rattle.run_laws.proofs.text_laws.traces_agree.Goals as goal

pub returns-clause-agree : goal.returns-clause-agree
returns-clause-agree g c = traces_agree g.T.Stations.lawful

pub returns-clause-to_parting : goal.returns-clause-to_parting
returns-clause-to_parting g c = agree_to_parting g.T.Stations.lawful
