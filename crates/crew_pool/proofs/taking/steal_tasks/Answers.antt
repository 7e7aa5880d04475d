use Rattle.std.proofs.Common.{ap, arith, ◌≡◌}
use Rattle.crossbeam_deque.specs.Handles.{view}
use Rattle.crew_pool.specs.declared.task_deque.SeatView.{SeatView}
use Rattle.crew_pool.proofs.Pairs.{IsItemAt-ready, TakesTasks-one}
use Rattle.crew_pool.proofs.DequeRule.{TasksOnce-takes}
use Rattle.crew_pool.proofs.taking.steal_tasks.Goals as goal

pub steal_as-requires-clause-takes : goal.steal_as-requires-clause-takes
steal_as-requires-clause-takes g c =
    let e : (view c.loop-try.seat).parts ≡ 1 = ap (λ (u : SeatView _). u.parts) c.loop-try.invariant.1 in
    TasksOnce-takes _ _ (omega (arith, e))

pub run_task-requires-clause-ready : goal.run_task-requires-clause-ready
run_task-requires-clause-ready g c κs within =
    IsItemAt-ready (g.W.Work.ready c.args.work.now) _ _ _ c.requires.ready
    (TakesTasks-one _ _ _ c.in-Success.task c.loop-try.invariant.1 c.in-Success.ensures.rule).0
