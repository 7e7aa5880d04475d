use Rattle.run_laws.proofs.Replaying.{state_is_replay, equal_logs_equal_states}
use Rattle.stations.proofs.GoodLaws.{lawful-stations}
use Rattle.stations.proofs.laws.states_are_replays.Goals as goal

pub returns-clause-replay : goal.returns-clause-replay
returns-clause-replay c net valid = state_is_replay (lawful-stations net valid)

pub returns-clause-equal : goal.returns-clause-equal
returns-clause-equal c net valid = equal_logs_equal_states (lawful-stations net valid)
