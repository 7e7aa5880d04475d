use Rattle.std.proofs.Common.{refl}
use Rattle.sim_draw.specs.Drawing.{word, generator, state_after}
use Rattle.run_laws.specs.Machine.{run_to}
use Rattle.stations.specs.Handling.{handle}
use Rattle.stations.proofs.examples.states_as_plain_data.Goals as goal

pub returns-clause-gate : goal.returns-clause-gate
unfolding run_to handle word generator state_after
returns-clause-gate c = refl

pub returns-clause-desk : goal.returns-clause-desk
unfolding run_to handle word generator state_after
returns-clause-desk c = refl

pub returns-clause-out : goal.returns-clause-out
unfolding run_to handle word generator state_after
returns-clause-out c = refl

pub returns-clause-gate_again : goal.returns-clause-gate_again
unfolding run_to handle word generator state_after
returns-clause-gate_again c = refl

pub returns-clause-desk_again : goal.returns-clause-desk_again
unfolding run_to handle word generator state_after
returns-clause-desk_again c = refl

pub returns-clause-out_again : goal.returns-clause-out_again
unfolding run_to handle word generator state_after
returns-clause-out_again c = refl
