use Rattle.std.proofs.Common.{◌≡◌, ◌+◌, length}
use Rattle.crossbeam_deque.specs.Handles.{worker_deque, worker_view, worker_flavor}
use Rattle.crew_pool.specs.Tasks.{AnswersTo}
use Rattle.crew_pool.specs.Calls.{HasTaken, AreIdle}
use Rattle.crew_pool.proofs.gathering.gather.Given as goal

abbrev pub invariant-loop-caller : goal.invariant-loop-caller
invariant-loop-caller g l =
    (worker_deque l.owner ≡ worker_deque l.initial.owner)
    × (worker_flavor l.owner ≡ worker_flavor l.initial.owner)
    × (length l.callers.items ≡ length l.yielded)
    × AreIdle l.callers.items
    × HasTaken (AnswersTo (g.W.Work.answers l._work) (worker_view l.initial.owner).dealt)
    ((worker_view l.initial.owner).parts + length l.yielded) (worker_view l.initial.owner).dealt l.owner l.all.items
