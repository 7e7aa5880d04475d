use Rattle.std.proofs.Common.{◌≡◌, false, take}
use Rattle.std.specs.List.{AllByRecursion}
use Rattle.clone_sets.specs.Sets.{has}
use Rattle.phys_proc.specs.Racks.{RackCopyView}
use Rattle.phys_proc.proofs.rack.find_copy.Given as goal

abbrev pub invariant-loop-copy : goal.invariant-loop-copy
invariant-loop-copy l = AllByRecursion (λ (h : RackCopyView). has h.set l.c ≡ false) (take l.copy-index l.copies)
