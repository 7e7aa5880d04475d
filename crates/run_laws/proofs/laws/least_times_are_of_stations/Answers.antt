use Rattle.run_laws.proofs.DueTimes.{least_of-stations, least_of-with_plan, least_of-with_end}
use Rattle.run_laws.proofs.DueTimes.{least_of-fork, next_front-forked, least-copies}
use Rattle.run_laws.proofs.laws.least_times_are_of_stations.Goals as goal

pub returns-clause-stations : goal.returns-clause-stations
returns-clause-stations g c = least_of-stations g.T.Stations.lawful g.T.Stations.to_stations

pub returns-clause-decision : goal.returns-clause-decision
returns-clause-decision g c = least_of-with_plan g.T.Stations.lawful

pub returns-clause-ending : goal.returns-clause-ending
returns-clause-ending g c = least_of-with_end g.T.Stations.lawful

pub returns-clause-forking : goal.returns-clause-forking
returns-clause-forking g c = least_of-fork g.T.Stations.sim

pub returns-clause-front_at_fork : goal.returns-clause-front_at_fork
returns-clause-front_at_fork g c = λ cs old front name. next_front-forked g.T.Stations.sim front cs old name

pub returns-clause-copies : goal.returns-clause-copies
returns-clause-copies g c = λ has cs front copies t there stand f.
    least-copies g.T.Stations.lawful g.T.Stations.to_stations has cs front copies there stand t f
