use Rattle.std.proofs.Common.{refl}
use Rattle.sim_draw.specs.Drawing.{word, generator, state_after}
use Rattle.run_laws.specs.Machine.{run_to}
use Rattle.stations.specs.Handling.{handle}
use Rattle.stations.proofs.examples.fewer_servers_and_less_room.Goals as goal

pub returns : goal.returns
unfolding run_to handle word generator state_after
returns c = refl
