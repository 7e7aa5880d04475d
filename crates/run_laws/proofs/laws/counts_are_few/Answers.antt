use Rattle.run_laws.proofs.FewGains.{counts_are_few}
use Rattle.run_laws.proofs.laws.counts_are_few.Goals as goal

pub returns : goal.returns
returns g c = record { at_most = counts_are_few g.T.Stations.sim }
