use Rattle.decision_book.proofs.RunExample.{during_a_run-right}
use Rattle.decision_book.proofs.examples.decisions_during_a_run.Goals as goal

pub returns-clause-right : goal.returns-clause-right
returns-clause-right c = during_a_run-right
