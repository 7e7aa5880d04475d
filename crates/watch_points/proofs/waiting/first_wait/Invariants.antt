use Rattle.std.proofs.Common.{◌≡◌, drop, length}
use Rattle.watch_points.specs.Due.{due_in}
use Rattle.watch_points.specs.Triggers.{enough_wait, time_of}
use Rattle.watch_points.proofs.waiting.first_wait.Given as goal

abbrev pub invariant-entries : goal.invariant-entries
invariant-entries l = due_in time_of (enough_wait l.least) l.start l.walk
    ≡ due_in time_of (enough_wait l.least) l.start (drop l.from l.log)

abbrev pub decreases-entries : goal.decreases-entries
decreases-entries l = length l.walk
