use Rattle.std.proofs.Common.{refl}
use Rattle.sim_draw.specs.Drawing.{word, generator, state_after}
use Rattle.run_laws.specs.Machine.{run_to}
use Rattle.stations.specs.Handling.{handle}
use Rattle.watch_points.proofs.examples.change_at_the_horizon.Goals as goal

pub returns-clause-before : goal.returns-clause-before
unfolding run_to handle word generator state_after
returns-clause-before c = refl

pub returns-clause-at : goal.returns-clause-at
unfolding run_to handle word generator state_after
returns-clause-at c = refl

pub returns-clause-after : goal.returns-clause-after
unfolding run_to handle word generator state_after
returns-clause-after c = refl
