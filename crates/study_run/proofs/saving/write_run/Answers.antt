use Rattle.study_run.proofs.SavedRuns.{lines_too_long}
use Rattle.study_run.proofs.saving.write_run.Goals as goal

pub returns-in_default-clause-fault : goal.returns-in_default-clause-fault
returns-in_default-clause-fault g c =
    lines_too_long c.args.model.now g.clone c.args.front c.args.solo.now c.trace.result.now c.requires.1.1
    c.trace.ensures c.in_default.ensures.none
