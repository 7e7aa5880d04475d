use Rattle.watch_points.proofs.BranchWindows.{due_at_front, due_is_not_late}
use Rattle.watch_points.proofs.HeldBranches.{branch_is_not_late, branches_stay}
use Rattle.watch_points.proofs.branch_laws.branches_are_made_in_time.Goals as goal

pub returns-clause-stay : goal.returns-clause-stay
returns-clause-stay g c = branches_stay
    (due_at_front g.T.Stations.lawful g.T.Stations.to_stations g.met.T.NumberingStations.fresh)

pub returns-clause-not_late : goal.returns-clause-not_late
returns-clause-not_late g c = branch_is_not_late
    (due_at_front g.T.Stations.lawful g.T.Stations.to_stations g.met.T.NumberingStations.fresh)
    (due_is_not_late g.T.Stations.lawful g.T.Stations.to_stations g.met.T.NumberingStations.fresh)
