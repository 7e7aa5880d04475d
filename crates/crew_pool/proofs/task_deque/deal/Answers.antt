use Rattle.std.proofs.Common.{length, ap, ◌∙◌, sym}
use Rattle.crew_pool.specs.declared.task_deque.SeatView.{SeatView}
use Rattle.crew_pool.proofs.DequeRule.{TasksOnce-deals}
use Rattle.crew_pool.proofs.task_deque.deal.Goals as goal

pub push_as-requires-clause-pushes : goal.push_as-requires-clause-pushes
push_as-requires-clause-pushes g c =
    let view = c.loop-item.invariant.2 in
    TasksOnce-deals _ _ c.loop-item.i c.in-Some.item
    (ap (λ (v : SeatView _). v.parts) view)
    (c.loop-item.invariant.3 ∙ ap (λ (v : SeatView _). length v.dealt) (sym view))
