use Rattle.study_run.proofs.PlannedScripts as law
use Rattle.study_run.proofs.saved_laws.scripts_are_planned.Goals as goal

pub returns : goal.returns
returns c = law.scripts_are_planned
