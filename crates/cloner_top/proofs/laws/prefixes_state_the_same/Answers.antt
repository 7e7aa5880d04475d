use Rattle.cloner_top.proofs.PrefixLaws as laws
use Rattle.cloner_top.proofs.laws.prefixes_state_the_same.Goals as goal

pub returns : goal.returns
returns c = laws.prefixes_state_the_same
