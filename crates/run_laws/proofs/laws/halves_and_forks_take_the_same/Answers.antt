use Rattle.std.proofs.Common.{nat_lt}
use Rattle.run_laws.proofs.Cuts.{part-cut_by, cut_by-within}
use Rattle.run_laws.proofs.Spread.{part-spread_marks}
use Rattle.run_laws.proofs.laws.halves_and_forks_take_the_same.Goals as goal

pub returns-clause-half : goal.returns-clause-half
returns-clause-half g c = λ has meet ends half k q meets here.
    part-cut_by meets half (λ m k. nat_lt (g.T.Stations.sim.time m) (ends k)) k here q

pub returns-clause-half_marks : goal.returns-clause-half_marks
returns-clause-half_marks g c = λ has meet half q meets. cut_by-within meets half q

pub returns-clause-fork : goal.returns-clause-fork
returns-clause-fork g c = λ has join meet ends old new of_old of_new k q joins meets common is_old is_new none.
    part-spread_marks joins meets common old new of_old of_new is_old is_new g.T.Stations.sim ends k q none
