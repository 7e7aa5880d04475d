use Rattle.watch_points.proofs.BranchBodies.{pass_goes_on}
use Rattle.watch_points.proofs.HeldBranches.{branch_is_not_late, branches_stay}
use Rattle.watch_points.proofs.PassingWatcher.{net_known, net_not_late}
use Rattle.watch_points.proofs.laws.branches_are_made_in_time.Goals as goal

pub returns-clause-stay : goal.returns-clause-stay
returns-clause-stay c net valid = branches_stay (net_known net valid)

pub returns-clause-not_late : goal.returns-clause-not_late
returns-clause-not_late c net valid = branch_is_not_late (net_known net valid) (net_not_late net valid)

pub returns-clause-pass : goal.returns-clause-pass
returns-clause-pass c net valid = pass_goes_on (net_known net valid) (net_not_late net valid)
