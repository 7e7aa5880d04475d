use Rattle.std.proofs.Common.{◌≡◌, ◌+◌, length}
use Rattle.crossbeam_deque.specs.Handles.{worker_deque, worker_view, worker_flavor}
use Rattle.crew_pool.specs.Calls.{IsDealt, AreIdle, AreOut}
use Rattle.crew_pool.proofs.idle.give_jobs.Given as goal

abbrev pub invariant-loop-caller : goal.invariant-loop-caller
invariant-loop-caller g l =
    (worker_deque l.deque ≡ worker_deque l.initial.deque)
    × (worker_flavor l.deque ≡ worker_flavor l.initial.deque)
    × IsDealt (g.W.Work.ready l.work.value) (length l.busy.items) (worker_view l.initial.deque).dealt l.deque
    × AreOut (record {
      work = l.work.value;
      deque = worker_deque l.initial.deque;
      items = (worker_view l.initial.deque).dealt;
    }) l.busy.items
    × AreIdle l.idle.items
    × (length l.busy.items + length l.idle.items ≡ length l.yielded)
