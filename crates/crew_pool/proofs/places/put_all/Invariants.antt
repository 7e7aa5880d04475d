use Rattle.std.proofs.Common.{◌≡◌, List, [], length}
use Rattle.crew_pool.specs.Tasks.{AnswersTo}
use Rattle.crew_pool.specs.Deque.{EachPair}
use Rattle.crew_pool.specs.Calls.{ArePlaced}
use Rattle.crew_pool.proofs.places.put_all.Given as goal

abbrev pub invariant-loop-i : goal.invariant-loop-i
invariant-loop-i g l =
    (length l.places.items ≡ length l.initial.places.items)
    × ((items : List _) → EachPair (AnswersTo (g.W.Work.answers l._work) items) l.yielded
    → ArePlaced (AnswersTo (g.W.Work.answers l._work) items) l.initial.places.items []
    → ArePlaced (AnswersTo (g.W.Work.answers l._work) items) l.places.items l.yielded)
