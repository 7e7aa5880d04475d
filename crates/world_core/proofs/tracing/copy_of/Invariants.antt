use Rattle.std.proofs.Common.{◌≡◌, take, false}
use Rattle.std.specs.List.{AllByRecursion}
use Rattle.clone_sets.specs.Sets.{has}
use Rattle.phys_proc.specs.Own.{StationCopy}
use Rattle.world_core.proofs.tracing.copy_of.Given as goal

abbrev pub invariant-loop-copy : goal.invariant-loop-copy
invariant-loop-copy l = AllByRecursion (λ (a : StationCopy). has a.set l.c ≡ false) (take l.copy-index l.copies)
