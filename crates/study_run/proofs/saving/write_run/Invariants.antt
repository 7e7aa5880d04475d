use Rattle.study_run.proofs.saving.write_run.Given as goal

abbrev pub ghost-of : goal.ghost-of
ghost-of g a = g.clone
