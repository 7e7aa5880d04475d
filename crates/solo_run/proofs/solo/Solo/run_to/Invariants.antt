use Rattle.std.proofs.Common.{[]}
use Rattle.solo_run.proofs.solo.Solo.run_to.Given as goal

abbrev pub ghost-run_on : goal.ghost-run_on
ghost-run_on g a = []
