use Rattle.std.proofs.Common.{List, subst}
use mathlib.Core.List.{IsPrefix}
use Rattle.phys_proc.specs.Racks.{RackView}
use Rattle.live_study.proofs.live.learn_last.Goals as goal

pub returns-clause-history : goal.returns-clause-history
returns-clause-history g c =
    let learnt = c.learn.ensures in
    record {
      all = c.learn.new.self;
      legal = learnt.legal;
      begins = learnt.begins;
      told = subst (λ (l : List RackView). IsPrefix l c.learn.new.self) c.in-Some.ensures.some.0 learnt.told;
    }
