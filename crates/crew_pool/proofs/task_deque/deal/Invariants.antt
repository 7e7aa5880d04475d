use Rattle.std.proofs.Common.{◌≡◌, [], length}
use Rattle.crossbeam_deque.specs.Handles.{worker_deque, worker_view, worker_flavor}
use Rattle.crew_pool.specs.Deque.{seat_view}
use Rattle.crew_pool.specs.declared.task_deque.TheConstants.{MAX_PARTS}
use Rattle.crew_pool.proofs.task_deque.deal.Given as goal

abbrev pub invariant-loop-item : goal.invariant-loop-item
invariant-loop-item g l =
    (worker_deque l.owner ≡ worker_deque l.initial.owner)
    × (worker_flavor l.owner ≡ worker_flavor l.initial.owner)
    × (worker_view l.owner ≡ seat_view MAX_PARTS l.yielded [])
    × (l.i ≡ length l.yielded)
