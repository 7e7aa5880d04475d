use Rattle.std.proofs.Common.{◌≡◌, map, take}
use Rattle.stations.specs.Saving.{saved_of}
use Rattle.checkpoint.proofs.saving.save_all.Given as goal

abbrev pub invariant-loop-s : goal.invariant-loop-s
invariant-loop-s l = l.all.items ≡ map saved_of (take l.s l.solo.states)
