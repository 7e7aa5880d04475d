use Rattle.std.proofs.Common.{◌≡◌, take}
use Rattle.checkpoint.specs.Snapshots.{restored_from}
use Rattle.checkpoint.proofs.resuming.restore_all.Given as goal

abbrev pub invariant-loop-s : goal.invariant-loop-s
invariant-loop-s l = l.states.items ≡ restored_from l.model 1 (take l.s l.snapshot.saved)
