use Rattle.std.proofs.Common.{◌≡◌}
use Rattle.phys_proc.specs.Own.{copy_after_fork}
use Rattle.phys_proc.proofs.Delivery.{map_first}
use Rattle.phys_proc.proofs.copies.fork.Given as goal

abbrev pub invariant-loop-i : goal.invariant-loop-i
invariant-loop-i l = l.copies.items ≡ map_first (copy_after_fork l.old l.new) l.i l.fn.copies.items
