use Rattle.command_words.proofs.Bridge.{clap_finds_the_values}
use Rattle.command_words.proofs.laws.clap_finds_the_values.Goals as goal

pub returns : goal.returns
returns c = clap_finds_the_values
