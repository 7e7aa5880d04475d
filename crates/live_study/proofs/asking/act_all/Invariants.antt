use Rattle.std.proofs.Common.{take}
use Rattle.decision_desk.specs.Desks.{desk_id}
use Rattle.live_study.specs.Asking.{HasAsked, IsSameAnalyst}
use Rattle.live_study.specs.Showing.{HasLooked}
use Rattle.live_study.proofs.asking.act_all.Given as goal

abbrev pub invariant-loop-k : goal.invariant-loop-k
invariant-loop-k g l = record {
  asked : HasAsked (desk_id l.desk) (take l.k l.analyst.todo.items) l.analyst;
  looked : HasLooked l.model (take l.k l.analyst.todo.items) (l.analyst, l.seat);
  same : IsSameAnalyst l.fn.analyst l.analyst;
}
