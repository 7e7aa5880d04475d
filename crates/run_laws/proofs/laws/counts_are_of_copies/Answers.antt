use Rattle.run_laws.proofs.Sums.{alone-copies, clones-copies, class-copy}
use Rattle.run_laws.proofs.laws.counts_are_of_copies.Goals as goal

pub returns-clause-alone : goal.returns-clause-alone
returns-clause-alone g c = λ w.
    alone-copies w.has w.size g.T.Stations.sim w.clones w.front w.station w.copies w.sized w.stand

pub returns-clause-clones : goal.returns-clause-clones
returns-clause-clones g c = λ w.
    clones-copies w.has w.size g.T.Stations.sim w.clones w.front w.station w.copies w.sized w.stand

pub returns-clause-class : goal.returns-clause-class
returns-clause-class g c = λ w.
    class-copy w.has w.size g.T.Stations.sim w.clones w.front w.station w.copies w.sized w.stand
