use Rattle.snapshot_text.proofs.RunTexts.{resumed_run, trace-of_text}
use Rattle.snapshot_text.proofs.laws.saved_runs_are_resumed.Goals as goal

pub returns-clause-lines : goal.returns-clause-lines
returns-clause-lines c = λ net valid d front. trace-of_text net valid d front

pub returns-clause-resumed : goal.returns-clause-resumed
returns-clause-resumed c = λ net valid d front has at_most. resumed_run net valid d front has at_most
