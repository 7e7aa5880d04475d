use Rattle.run_laws.proofs.NextFronts.{log_at-nothing_due}
use Rattle.watch_points.proofs.Due.{due_in-before_front}
use Rattle.watch_points.proofs.BranchWindows.{due_at_front, due_is_not_late}
use Rattle.watch_points.proofs.branch_laws.due_times_are_known.Goals as goal

pub returns-clause-nothing_due : goal.returns-clause-nothing_due
returns-clause-nothing_due g c = log_at-nothing_due g.T.Stations.lawful

pub returns-clause-before_front : goal.returns-clause-before_front
returns-clause-before_front g c = due_in-before_front g.T.Stations.sim.time

pub returns-clause-known : goal.returns-clause-known
returns-clause-known g c = due_at_front g.T.Stations.lawful g.T.Stations.to_stations g.met.T.NumberingStations.fresh

pub returns-clause-not_late : goal.returns-clause-not_late
returns-clause-not_late g c =
    due_is_not_late g.T.Stations.lawful g.T.Stations.to_stations g.met.T.NumberingStations.fresh
