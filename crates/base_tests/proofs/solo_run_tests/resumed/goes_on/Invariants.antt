use Rattle.base_tests.proofs.solo_run_tests.resumed.goes_on.Given as goal

abbrev pub ghost-run_after : goal.ghost-run_after
ghost-run_after g a = a._before.now.trace
