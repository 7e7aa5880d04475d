use Rattle.std.proofs.Common.{ℕ, ◌≤◌, drop, length}
use Rattle.watch_points.specs.Peaks.{NoMoreWait}
use Rattle.watch_points.proofs.peak.most_waiting.Given as goal

abbrev pub invariant-entries : goal.invariant-entries
invariant-entries l = (m : ℕ) → l.most ≤ m → NoMoreWait m l.walk → NoMoreWait m (drop l.from l.log)

abbrev pub decreases-entries : goal.decreases-entries
decreases-entries l = length l.walk
