use Rattle.std.proofs.Common.{refl}
use Rattle.sim_draw.specs.Drawing.{word, generator, state_after}
use Rattle.run_laws.specs.Machine.{run_to}
use Rattle.stations.specs.Handling.{handle}
use Rattle.stations.proofs.examples.windows_of_one_station.Goals as goal

pub returns-clause-first_log : goal.returns-clause-first_log
unfolding run_to handle word generator state_after
returns-clause-first_log c = refl

pub returns-clause-first_state : goal.returns-clause-first_state
unfolding run_to handle word generator state_after
returns-clause-first_state c = refl

pub returns-clause-third_log : goal.returns-clause-third_log
unfolding run_to handle word generator state_after
returns-clause-third_log c = refl

pub returns-clause-ended_log : goal.returns-clause-ended_log
unfolding run_to handle word generator state_after
returns-clause-ended_log c = refl
