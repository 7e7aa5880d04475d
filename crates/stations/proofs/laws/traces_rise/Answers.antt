use Rattle.run_laws.proofs.Rising.{trace_rises}
use Rattle.stations.proofs.GoodLaws.{lawful-stations, stations-to_stations, fresh-stations}
use Rattle.stations.proofs.laws.traces_rise.Goals as goal

pub returns : goal.returns
returns c net valid = trace_rises (lawful-stations net valid) (stations-to_stations net valid)
    (fresh-stations net valid)
