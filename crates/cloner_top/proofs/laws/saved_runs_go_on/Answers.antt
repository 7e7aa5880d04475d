use Rattle.cloner_top.proofs.GoingOnLaws as law
use Rattle.cloner_top.proofs.laws.saved_runs_go_on.Goals as goal

pub returns : goal.returns
returns c = law.saved_runs_go_on
