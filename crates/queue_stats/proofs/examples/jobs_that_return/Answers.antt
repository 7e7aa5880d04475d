use Rattle.std.proofs.Common.{refl}
use Rattle.sim_draw.specs.Drawing.{word, generator, state_after}
use Rattle.run_laws.specs.Machine.{run_to}
use Rattle.stations.specs.Handling.{handle}
use Rattle.queue_stats.proofs.examples.jobs_that_return.Goals as goal

pub returns-clause-stats : goal.returns-clause-stats
unfolding run_to handle word generator state_after
returns-clause-stats c = refl

pub returns-clause-little : goal.returns-clause-little
unfolding run_to handle word generator state_after
returns-clause-little c = refl
