use Rattle.std.proofs.Common.{refl}
use Rattle.sim_draw.specs.Drawing.{word, generator, state_after}
use Rattle.run_laws.specs.Machine.{run_to}
use Rattle.stations.specs.Handling.{handle}
use Rattle.study_run.proofs.examples.limits_are_met_alone.Goals as goal

pub returns-clause-base : goal.returns-clause-base
unfolding run_to handle word generator state_after
returns-clause-base c = refl

pub returns-clause-fast : goal.returns-clause-fast
unfolding run_to handle word generator state_after
returns-clause-fast c = refl

pub returns-clause-within : goal.returns-clause-within
unfolding run_to handle word generator state_after
returns-clause-within c = refl
