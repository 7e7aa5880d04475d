use Rattle.checkpoint.proofs.Earlier.{ticks_of_all}
use Rattle.checkpoint.proofs.resuming.onward.Given as goal

abbrev pub ghost-run_on : goal.ghost-run_on
ghost-run_on g a = ticks_of_all 1 a.self.states
