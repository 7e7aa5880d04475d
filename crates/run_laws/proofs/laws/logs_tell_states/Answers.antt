use Rattle.run_laws.proofs.Replaying.{state_is_replay, replay_is_good, equal_logs_equal_states}
use Rattle.run_laws.proofs.Fronts.{log_at_front}
use Rattle.run_laws.proofs.laws.logs_tell_states.Goals as goal

pub returns-clause-replay : goal.returns-clause-replay
returns-clause-replay g c = state_is_replay g.T.Stations.lawful

pub returns-clause-good : goal.returns-clause-good
returns-clause-good g c = replay_is_good g.T.Stations.lawful

pub returns-clause-equal : goal.returns-clause-equal
returns-clause-equal g c = equal_logs_equal_states g.T.Stations.lawful

pub returns-clause-at_front : goal.returns-clause-at_front
returns-clause-at_front g c = log_at_front g.T.Stations.lawful
