use Rattle.std.proofs.Common.{refl}
use Rattle.sim_draw.specs.Drawing.{word, generator, state_after}
use Rattle.stations.specs.Handling.{handle}
use Rattle.stations.proofs.examples.messages_that_stations_ignore.Goals as goal

pub returns-clause-job_at_source : goal.returns-clause-job_at_source
unfolding handle word generator state_after
returns-clause-job_at_source c = refl

pub returns-clause-tick_at_server : goal.returns-clause-tick_at_server
unfolding handle word generator state_after
returns-clause-tick_at_server c = refl

pub returns-clause-done_while_idle : goal.returns-clause-done_while_idle
unfolding handle word generator state_after
returns-clause-done_while_idle c = refl

pub returns-clause-refused_set : goal.returns-clause-refused_set
unfolding handle word generator state_after
returns-clause-refused_set c = refl

pub returns-clause-done_at_delay : goal.returns-clause-done_at_delay
unfolding handle word generator state_after
returns-clause-done_at_delay c = refl

pub returns-clause-done_at_router : goal.returns-clause-done_at_router
unfolding handle word generator state_after
returns-clause-done_at_router c = refl

pub returns-clause-set_at_sink : goal.returns-clause-set_at_sink
unfolding handle word generator state_after
returns-clause-set_at_sink c = refl
