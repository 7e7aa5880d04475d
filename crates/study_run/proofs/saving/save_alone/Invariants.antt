use Rattle.sim_base.specs.Clones.{clone_at}
use Rattle.study_run.proofs.saving.save_alone.Given as goal

abbrev pub ghost-write_run : goal.ghost-write_run
ghost-write_run g a = clone_at a.lists.now.clones a.c
