use Rattle.stations.proofs.GoodLaws.{lawful-stations, stations-to_stations, fresh-stations}
use Rattle.stations.proofs.laws.stations_are_lawful.Goals as goal

pub returns-clause-lawful : goal.returns-clause-lawful
returns-clause-lawful c net valid = lawful-stations net valid

pub returns-clause-to_stations : goal.returns-clause-to_stations
returns-clause-to_stations c net valid = stations-to_stations net valid

pub returns-clause-fresh : goal.returns-clause-fresh
returns-clause-fresh c net valid = fresh-stations net valid
