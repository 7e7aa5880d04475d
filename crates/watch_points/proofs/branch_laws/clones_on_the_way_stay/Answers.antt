use Rattle.run_laws.proofs.Gaining.{IsBeyond-later}
use Rattle.watch_points.proofs.BranchLimits.{held_clones_stay}
use Rattle.watch_points.proofs.BranchWindows.{due_at_front}
use Rattle.watch_points.proofs.branch_laws.clones_on_the_way_stay.Goals as goal

pub returns-clause-clones : goal.returns-clause-clones
returns-clause-clones g c = held_clones_stay g.T.Stations.sim
    (due_at_front g.T.Stations.lawful g.T.Stations.to_stations g.met.T.NumberingStations.fresh)

pub returns-clause-beyond : goal.returns-clause-beyond
returns-clause-beyond g c = IsBeyond-later g.T.Stations.lawful
