use Rattle.std.proofs.Common.{refl}
use Rattle.sim_draw.specs.Drawing.{word, generator, state_after}
use Rattle.run_laws.specs.Machine.{run_to}
use Rattle.stations.specs.Handling.{handle}
use Rattle.watch_points.proofs.examples.report_of_a_branch_that_was_made.Goals as goal

pub returns-clause-gate : goal.returns-clause-gate
unfolding run_to handle word generator state_after
returns-clause-gate c = refl

pub returns-clause-gate_copies : goal.returns-clause-gate_copies
unfolding run_to handle word generator state_after
returns-clause-gate_copies c = refl

pub returns-clause-gate_alone : goal.returns-clause-gate_alone
unfolding run_to handle word generator state_after
returns-clause-gate_alone c = refl

pub returns-clause-desk : goal.returns-clause-desk
unfolding run_to handle word generator state_after
returns-clause-desk c = refl

pub returns-clause-desk_copies : goal.returns-clause-desk_copies
unfolding run_to handle word generator state_after
returns-clause-desk_copies c = refl

pub returns-clause-desk_alone : goal.returns-clause-desk_alone
unfolding run_to handle word generator state_after
returns-clause-desk_alone c = refl

pub returns-clause-out : goal.returns-clause-out
unfolding run_to handle word generator state_after
returns-clause-out c = refl
