use Rattle.stations.proofs.RestoringLaws.{fits-restored}
use Rattle.checkpoint.proofs.Restoring.{state_is_restored}
use Rattle.checkpoint.proofs.RunKeeps.{run_invariant_holds}
use Rattle.checkpoint.proofs.RunStates.{run_states_are_kept}
use Rattle.checkpoint.proofs.resume_laws.runs_are_saved.Goals as goal

pub returns-clause-restored : goal.returns-clause-restored
returns-clause-restored c = λ net valid. fits-restored net valid

pub returns-clause-same : goal.returns-clause-same
returns-clause-same c = λ net valid. state_is_restored net valid

pub returns-clause-states : goal.returns-clause-states
returns-clause-states c = λ net valid. run_states_are_kept net valid

pub returns-clause-kept : goal.returns-clause-kept
returns-clause-kept c = λ net valid. run_invariant_holds net valid
