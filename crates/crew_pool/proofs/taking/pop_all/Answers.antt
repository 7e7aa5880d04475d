use Rattle.std.proofs.Common.{◌≡◌, ap, arith}
use Rattle.crossbeam_deque.specs.Handles.{worker_view}
use Rattle.crew_pool.specs.declared.task_deque.SeatView.{SeatView}
use Rattle.crew_pool.proofs.Pairs.{IsItemAt-ready, TakesTasks-one}
use Rattle.crew_pool.proofs.DequeRule.{TasksOnce-takes, TasksOnce-finds}
use Rattle.crew_pool.proofs.taking.pop_all.Goals as goal

pub pop_as-requires-clause-fifo : goal.pop_as-requires-clause-fifo
pop_as-requires-clause-fifo g c _ =
    let e : (worker_view c.loop.owner).parts ≡ (worker_view c.args.owner.now).parts =
    ap (λ (u : SeatView _). u.parts) c.loop.invariant.4.0 in
    TasksOnce-takes _ _ (omega (arith, e, c.requires.part))

pub pop_as-requires-clause-lifo : goal.pop_as-requires-clause-lifo
pop_as-requires-clause-lifo g c lifo = absurd (omega (arith, lifo, c.loop.invariant.3, c.requires.fifo))

pub pop_as-requires-clause-empty : goal.pop_as-requires-clause-empty
pop_as-requires-clause-empty g c = TasksOnce-finds _ _

pub run_task-requires-clause-ready : goal.run_task-requires-clause-ready
run_task-requires-clause-ready g c κs within =
    IsItemAt-ready (g.W.Work.ready c.args.work.now) _ _ _ c.requires.ready
    (TakesTasks-one _ _ _ (c.in-Some-pop_as.i, c.in-Some-pop_as.item) c.loop.invariant.4.0
    c.in-Some-pop_as.ensures.rule).0
