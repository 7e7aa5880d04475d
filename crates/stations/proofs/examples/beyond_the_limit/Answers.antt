use Rattle.std.proofs.Common.{lit<, ◌<◌, arith}
use Rattle.sim_draw.specs.Drawing.{word, generator, state_after}
use Rattle.run_laws.specs.Machine.{run_to}
use Rattle.stations.specs.Handling.{handle}
use Rattle.stations.proofs.examples.beyond_the_limit.Goals as goal

pub returns-clause-desk : goal.returns-clause-desk
unfolding run_to handle word generator state_after
returns-clause-desk c = lit< tt

pub returns-clause-gate : goal.returns-clause-gate
unfolding run_to handle word generator state_after
returns-clause-gate c = λ h. let never : 3 < 2 = h in omega arith
