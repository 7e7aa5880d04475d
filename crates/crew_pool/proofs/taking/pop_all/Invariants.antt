use Rattle.std.proofs.Common.{◌≡◌}
use Rattle.crossbeam_deque.specs.Handles.{worker_deque, worker_view, worker_flavor}
use Rattle.crew_pool.specs.Tasks.{AnswersTo}
use Rattle.crew_pool.specs.Calls.{HasTaken}
use Rattle.crew_pool.proofs.taking.pop_all.Given as goal

abbrev pub invariant-loop : goal.invariant-loop
invariant-loop g l =
    (goal.iterator-loop g).can_next l.iterator'
    × (goal.iterator-loop g).is_finite l.iterator'
    × (worker_deque l.owner ≡ worker_deque l.initial.owner)
    × (worker_flavor l.owner ≡ worker_flavor l.initial.owner)
    × HasTaken (AnswersTo (g.W.Work.answers l.work) (worker_view l.initial.owner).dealt)
    (worker_view l.initial.owner).parts (worker_view l.initial.owner).dealt l.owner l.outs.items
