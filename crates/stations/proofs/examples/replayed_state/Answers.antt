use Rattle.std.proofs.Common.{refl}
use Rattle.sim_draw.specs.Drawing.{word, generator, state_after}
use Rattle.run_laws.specs.Machine.{run_to}
use Rattle.stations.specs.Handling.{handle}
use Rattle.stations.proofs.examples.replayed_state.Goals as goal

pub returns-clause-reached : goal.returns-clause-reached
unfolding run_to handle word generator state_after
returns-clause-reached c = refl

pub returns-clause-replayed : goal.returns-clause-replayed
unfolding run_to handle word generator state_after
returns-clause-replayed c = refl
