use Rattle.live_study.proofs.Working.{counted_if_run}
use Rattle.live_study.proofs.study.live_study.Goals as goal

pub returns-clause-steps : goal.returns-clause-steps
returns-clause-steps g c =
    counted_if_run _ _ c.deref.ensures _ c.run_prepared.result _ _ c.run_prepared.ensures.live_run
    c.run_prepared.ensures.steps
