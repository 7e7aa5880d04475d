use Rattle.study_run.proofs.PlannedScripts as law
use Rattle.study_run.proofs.saved_laws.saved_scripts_are_resumed.Goals as goal

pub returns : goal.returns
returns c = law.saved_scripts_are_resumed
