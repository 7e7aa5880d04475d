use Rattle.std.proofs.Common.{refl}
use Rattle.sim_draw.specs.Drawing.{word, generator, state_after}
use Rattle.run_laws.specs.Machine.{run_to}
use Rattle.stations.specs.Handling.{handle}
use Rattle.stations.proofs.examples.weight_that_changes.Goals as goal

pub returns : goal.returns
unfolding run_to handle word generator state_after
returns c = refl
