use Rattle.run_laws.proofs.SharedTextsWeighing.{trace_split, lines_agree, rest_length, rest_of_logs}
use Rattle.run_laws.proofs.text_laws.lines_are_of_logs.Goals as goal

pub returns-clause-split : goal.returns-clause-split
returns-clause-split g c = trace_split g.T.Stations.lawful g.T.Stations.to_stations g.met.T.NumberingStations.fresh

pub returns-clause-agree : goal.returns-clause-agree
returns-clause-agree g c = lines_agree g.T.Stations.lawful g.T.Stations.to_stations g.met.T.NumberingStations.fresh

pub returns-clause-length : goal.returns-clause-length
returns-clause-length g c = rest_length g.T.Stations.lawful g.T.Stations.to_stations g.met.T.NumberingStations.fresh

pub returns-clause-rest : goal.returns-clause-rest
returns-clause-rest g c = rest_of_logs g.T.Stations.lawful g.T.Stations.to_stations g.met.T.NumberingStations.fresh
