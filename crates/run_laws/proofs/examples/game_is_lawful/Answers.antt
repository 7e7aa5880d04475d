use Rattle.run_laws.proofs.Game.{game_is_lawful, game_sends_to_stations}
use Rattle.run_laws.proofs.examples.game_is_lawful.Goals as goal

pub returns-clause-handles : goal.returns-clause-handles
returns-clause-handles c = game_is_lawful

pub returns-clause-sends : goal.returns-clause-sends
returns-clause-sends c = game_sends_to_stations
