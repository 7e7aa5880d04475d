use Rattle.run_laws.proofs.Numbers.{numbers_low, numbers_fit}
use Rattle.run_laws.proofs.number_laws.numbers_are_low.Goals as goal

pub returns-clause-low : goal.returns-clause-low
returns-clause-low g c = λ k front m there.
    numbers_low g.T.Stations.lawful g.T.Stations.to_stations g.met.T.NumberingStations.fresh g.met.T.Frugal.at_most k
    front
    there m

pub returns-clause-fit : goal.returns-clause-fit
returns-clause-fit g c = λ k front bound m there.
    numbers_fit g.T.Stations.lawful g.T.Stations.to_stations g.met.T.NumberingStations.fresh g.met.T.Frugal.at_most k
    front
    there bound m
