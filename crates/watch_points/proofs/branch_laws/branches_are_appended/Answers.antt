use Rattle.watch_points.proofs.Branches.{branches_at-is}
use Rattle.watch_points.proofs.BranchSources.{branch_by-no_end, branch_named-outcome}
use Rattle.watch_points.proofs.BranchSteps.{outcomes-at}
use Rattle.watch_points.proofs.branch_laws.branches_are_appended.Goals as goal

pub returns-clause-appended : goal.returns-clause-appended
returns-clause-appended g c = branches_at-is g.T.Stations.sim

pub returns-clause-outcome : goal.returns-clause-outcome
returns-clause-outcome g c = outcomes-at g.T.Stations.sim

pub returns-clause-branch_name : goal.returns-clause-branch_name
returns-clause-branch_name g c = branch_named-outcome g.T.Stations.sim

pub returns-clause-no_end : goal.returns-clause-no_end
returns-clause-no_end g c = branch_by-no_end g.T.Stations.sim
