use Rattle.std.proofs.Common.{refl}
use Rattle.sim_draw.specs.Drawing.{word, generator, state_after}
use Rattle.run_laws.specs.Machine.{run_to}
use Rattle.stations.specs.Handling.{handle}
use Rattle.study_run.specs.Overs.{first_below, first_overrun}
use Rattle.study_run.proofs.examples.limits_are_met.Goals as goal

pub returns-clause-three : goal.returns-clause-three
unfolding first_overrun first_below run_to handle word generator state_after
returns-clause-three c = refl

pub returns-clause-alone : goal.returns-clause-alone
unfolding first_overrun first_below run_to handle word generator state_after
returns-clause-alone c = refl

pub returns-clause-two : goal.returns-clause-two
unfolding first_overrun first_below run_to handle word generator state_after
returns-clause-two c = refl

pub returns-clause-four : goal.returns-clause-four
unfolding first_overrun first_below run_to handle word generator state_after
returns-clause-four c = refl

pub returns-clause-five : goal.returns-clause-five
unfolding first_overrun first_below run_to handle word generator state_after
returns-clause-five c = refl
