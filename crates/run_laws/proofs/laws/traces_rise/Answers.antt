use Rattle.run_laws.proofs.Numbers.{entries_apart}
use Rattle.run_laws.proofs.Rising.{trace_rises, numbers_are_once}
use Rattle.run_laws.proofs.ForStations.{due_is_for_stations}
use Rattle.run_laws.proofs.laws.traces_rise.Goals as goal

pub returns-clause-rises : goal.returns-clause-rises
returns-clause-rises g c = trace_rises g.T.Stations.lawful g.T.Stations.to_stations g.met.T.NumberingStations.fresh

pub returns-clause-once : goal.returns-clause-once
returns-clause-once g c = numbers_are_once g.T.Stations.lawful g.T.Stations.to_stations g.met.T.NumberingStations.fresh

pub returns-clause-for_stations : goal.returns-clause-for_stations
returns-clause-for_stations g c = due_is_for_stations g.T.Stations.lawful g.T.Stations.to_stations

pub returns-clause-entries : goal.returns-clause-entries
returns-clause-entries g c = λ k front e f there.
    entries_apart g.T.Stations.lawful g.T.Stations.to_stations g.met.T.NumberingStations.fresh k front there e f
