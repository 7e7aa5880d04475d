use Rattle.command_words.proofs.Sources.{made_is_reported}
use Rattle.command_words.proofs.laws.made_is_reported.Goals as goal

pub returns : goal.returns
returns c = made_is_reported
