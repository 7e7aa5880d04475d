use Rattle.watch_points.proofs.BranchBodies.{pass_goes_on}
use Rattle.watch_points.proofs.Keeping.{holds_at_start, pass_begins, pass_ends}
use Rattle.watch_points.proofs.BranchWindows.{due_at_front, due_is_not_late}
use Rattle.watch_points.proofs.branch_laws.passes_hold_branches.Goals as goal

pub returns-clause-start : goal.returns-clause-start
returns-clause-start g c = holds_at_start g.T.Stations.sim

pub returns-clause-begins : goal.returns-clause-begins
returns-clause-begins g c = pass_begins g.T.Stations.sim

pub returns-clause-goes_on : goal.returns-clause-goes_on
returns-clause-goes_on g c = pass_goes_on
    (due_at_front g.T.Stations.lawful g.T.Stations.to_stations g.met.T.NumberingStations.fresh)
    (due_is_not_late g.T.Stations.lawful g.T.Stations.to_stations g.met.T.NumberingStations.fresh)

pub returns-clause-ends : goal.returns-clause-ends
returns-clause-ends g c = pass_ends g.T.Stations.sim
