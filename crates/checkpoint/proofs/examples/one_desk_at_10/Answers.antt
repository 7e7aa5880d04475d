use Rattle.std.proofs.Common.{refl}
use Rattle.std.specs.Fmt.{digits}
use Rattle.sim_draw.specs.Drawing.{word, generator, state_after}
use Rattle.run_laws.specs.Machine.{run_to}
use Rattle.stations.specs.Handling.{handle}
use Rattle.checkpoint.proofs.examples.one_desk_at_10.Goals as goal

pub returns-clause-snapshot : goal.returns-clause-snapshot
unfolding run_to handle word generator state_after digits
returns-clause-snapshot c = refl

pub returns-clause-onward : goal.returns-clause-onward
unfolding run_to handle word generator state_after digits
returns-clause-onward c = refl
