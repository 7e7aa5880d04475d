use Rattle.std.proofs.Common.{refl}
use Rattle.std.specs.Fmt.{digits}
use Rattle.sim_draw.specs.Drawing.{word, generator, state_after}
use Rattle.run_laws.specs.Machine.{run_to}
use Rattle.stations.specs.Handling.{handle}
use Rattle.queue_stats.proofs.row_examples.faster_service_in_one_branch.Goals as goal

pub returns : goal.returns
unfolding run_to handle word generator state_after digits
returns c = record { text = refl }
