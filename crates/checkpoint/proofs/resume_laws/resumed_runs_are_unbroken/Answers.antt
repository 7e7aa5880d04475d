use Rattle.checkpoint.proofs.ResumedRuns.{run_forgets_its_trace, resumed_is_unbroken}
use Rattle.checkpoint.proofs.resume_laws.resumed_runs_are_unbroken.Goals as goal

pub returns-clause-forgets : goal.returns-clause-forgets
returns-clause-forgets g c = run_forgets_its_trace g.T.Stations.sim

pub returns-clause-unbroken : goal.returns-clause-unbroken
returns-clause-unbroken g c = resumed_is_unbroken g.T.Stations.lawful
