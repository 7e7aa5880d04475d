use Rattle.watch_points.proofs.BranchBodies.{fork_with_plan}
use Rattle.watch_points.proofs.BranchSources.{branch_named-script}
use Rattle.watch_points.proofs.branch_laws.script_clones_are_forked.Goals as goal

pub returns-clause-script_name : goal.returns-clause-script_name
returns-clause-script_name c = branch_named-script

pub returns-clause-fork_and_set : goal.returns-clause-fork_and_set
returns-clause-fork_and_set c = fork_with_plan
