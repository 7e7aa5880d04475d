use Rattle.base_tests.proofs.solo_run_tests.resumed.run_after.Given as goal

abbrev pub ghost-run_on : goal.ghost-run_on
ghost-run_on g a = g.past
