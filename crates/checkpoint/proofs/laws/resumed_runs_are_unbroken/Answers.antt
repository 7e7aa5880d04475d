use Rattle.checkpoint.proofs.AcceptedStarts.{accepted_may_go_on}
use Rattle.checkpoint.proofs.ResumedTexts.{resumed_text_is_whole}
use Rattle.checkpoint.proofs.RunSnapshots.{resumed_run_is_unbroken, run_is_accepted}
use Rattle.checkpoint.proofs.laws.resumed_runs_are_unbroken.Goals as goal

pub returns-clause-goes_on : goal.returns-clause-goes_on
returns-clause-goes_on c = λ net valid. accepted_may_go_on net valid

pub returns-clause-accepted : goal.returns-clause-accepted
returns-clause-accepted c = λ net valid. run_is_accepted net valid

pub returns-clause-unbroken : goal.returns-clause-unbroken
returns-clause-unbroken c = λ net valid. resumed_run_is_unbroken net valid

pub returns-clause-text : goal.returns-clause-text
returns-clause-text c = λ net valid. resumed_text_is_whole net valid
