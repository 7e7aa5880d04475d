use Rattle.std.proofs.Common.{refl}
use Rattle.sim_draw.specs.Drawing.{word, generator, state_after}
use Rattle.run_laws.specs.Machine.{run_to}
use Rattle.stations.specs.Handling.{handle}
use Rattle.watch_points.proofs.examples.branch_when_a_job_waits.Goals as goal

pub returns-clause-due : goal.returns-clause-due
unfolding run_to handle word generator state_after
returns-clause-due c = refl

pub returns-clause-made : goal.returns-clause-made
unfolding run_to handle word generator state_after
returns-clause-made c = refl

pub returns-clause-trace : goal.returns-clause-trace
unfolding run_to handle word generator state_after
returns-clause-trace c = refl

pub returns-clause-never : goal.returns-clause-never
unfolding run_to handle word generator state_after
returns-clause-never c = refl

pub returns-clause-none : goal.returns-clause-none
unfolding run_to handle word generator state_after
returns-clause-none c = refl
