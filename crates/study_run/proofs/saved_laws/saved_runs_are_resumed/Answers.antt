use Rattle.study_run.proofs.Resumed as law
use Rattle.study_run.proofs.saved_laws.saved_runs_are_resumed.Goals as goal

pub returns : goal.returns
returns c = law.saved_runs_are_resumed
