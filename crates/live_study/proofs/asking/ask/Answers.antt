use Rattle.live_study.proofs.Doing.{asked_next}
use Rattle.live_study.proofs.asking.ask.Goals as goal

pub returns-clause-asked : goal.returns-clause-asked
returns-clause-asked g c acts h =
    let a = c.decide-receipt.ensures.asked in asked_next _ acts c.args.d c.args.analyst.now _ _ a.0 h a.1
