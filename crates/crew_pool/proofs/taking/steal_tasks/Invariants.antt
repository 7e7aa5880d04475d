use Rattle.std.proofs.Common.{◌≡◌}
use Rattle.crossbeam_deque.specs.Handles.{view, IsPassOf, stealer_deque}
use Rattle.crew_pool.specs.Tasks.{AnswersTo}
use Rattle.crew_pool.specs.Deque.{seat_view, numbers, EachPair}
use Rattle.crew_pool.specs.Calls.{dealt_of}
use Rattle.crew_pool.proofs.taking.steal_tasks.Given as goal

abbrev pub invariant-loop-try : goal.invariant-loop-try
invariant-loop-try g l =
    IsPassOf (stealer_deque l.thief) l.seat
    × (view l.seat ≡ seat_view 1 (dealt_of l.initial.seat) (numbers l.outs.items))
    × EachPair (AnswersTo (g.W.Work.answers l.work) (dealt_of l.initial.seat)) l.outs.items
