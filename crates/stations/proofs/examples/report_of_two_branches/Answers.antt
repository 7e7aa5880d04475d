use Rattle.std.proofs.Common.{refl}
use Rattle.sim_draw.specs.Drawing.{word, generator, state_after}
use Rattle.run_laws.specs.Machine.{run_to}
use Rattle.stations.specs.Handling.{handle}
use Rattle.stations.proofs.examples.report_of_two_branches.Goals as goal

pub returns-clause-gate_copies : goal.returns-clause-gate_copies
unfolding run_to handle word generator state_after
returns-clause-gate_copies c = refl

pub returns-clause-gate_handled : goal.returns-clause-gate_handled
unfolding run_to handle word generator state_after
returns-clause-gate_handled c = refl

pub returns-clause-gate_alone : goal.returns-clause-gate_alone
unfolding run_to handle word generator state_after
returns-clause-gate_alone c = refl

pub returns-clause-desk_copies : goal.returns-clause-desk_copies
unfolding run_to handle word generator state_after
returns-clause-desk_copies c = refl

pub returns-clause-desk_handled : goal.returns-clause-desk_handled
unfolding run_to handle word generator state_after
returns-clause-desk_handled c = refl

pub returns-clause-desk_alone : goal.returns-clause-desk_alone
unfolding run_to handle word generator state_after
returns-clause-desk_alone c = refl

pub returns-clause-out_copies : goal.returns-clause-out_copies
unfolding run_to handle word generator state_after
returns-clause-out_copies c = refl

pub returns-clause-out_handled : goal.returns-clause-out_handled
unfolding run_to handle word generator state_after
returns-clause-out_handled c = refl

pub returns-clause-out_alone : goal.returns-clause-out_alone
unfolding run_to handle word generator state_after
returns-clause-out_alone c = refl
