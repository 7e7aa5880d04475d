use Rattle.std.proofs.Common.{◌≡◌, ℕ, ◌+◌, ◌-◌, length}
use Rattle.stations.specs.Quick.{IsQuick}
use Rattle.phys_proc.specs.Own.{ComesFrom}
use Rattle.phys_proc.specs.Together.{AreAlive, copy_of}
use Rattle.phys_proc.proofs.quick.run_packed.Given as goal

abbrev pub invariant-loop-count : goal.invariant-loop-count
invariant-loop-count g l = record {
  onward : (ends : ℕ → ℕ) (bound : ℕ) → AreAlive ends bound l.together l.fn.pending.set
      → ComesFrom l.goal.model.now l.goal.station ends bound (copy_of l.fn.pending l.fn.state l.fn.log)
      (copy_of l.pending l.state l.log) l.fn.sent l.sent l.fn.steps l.steps;
  counted : l.steps ≡ l.fn.steps + l.count;
  long : length l.log + l.room ≡ l.goal.model.now.limit + l.count;
  quick : IsQuick (l.room - l.count) l.state;
  partial : l.pending.partial ≡ l.fn.pending.partial;
}

abbrev pub decreases-loop-count : goal.decreases-loop-count
decreases-loop-count g l = l.room - l.count
