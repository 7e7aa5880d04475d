use Rattle.std.proofs.Common.{refl}
use Rattle.std.specs.Fmt.{digits}
use Rattle.sim_draw.specs.Drawing.{word, generator, state_after}
use Rattle.run_laws.specs.Machine.{run_to}
use Rattle.stations.specs.Handling.{handle}
use Rattle.queue_stats.proofs.row_examples.orders_of_service.Goals as goal

pub returns-clause-by_class : goal.returns-clause-by_class
unfolding run_to handle word generator state_after digits
returns-clause-by_class c = refl

pub returns-clause-by_arrival : goal.returns-clause-by_arrival
unfolding run_to handle word generator state_after digits
returns-clause-by_arrival c = refl
