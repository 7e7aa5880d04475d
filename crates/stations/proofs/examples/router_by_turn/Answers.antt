use Rattle.std.proofs.Common.{refl}
use Rattle.sim_draw.specs.Drawing.{word, generator, state_after}
use Rattle.run_laws.specs.Machine.{run_to}
use Rattle.stations.specs.Handling.{handle}
use Rattle.stations.proofs.examples.router_by_turn.Goals as goal

pub returns-clause-trace : goal.returns-clause-trace
unfolding run_to handle word generator state_after
returns-clause-trace c = refl

pub returns-clause-drawn : goal.returns-clause-drawn
unfolding run_to handle word generator state_after
returns-clause-drawn c = refl
