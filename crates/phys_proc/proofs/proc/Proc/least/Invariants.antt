use Rattle.std.proofs.Common.{take}
use Rattle.phys_proc.specs.Ends.{ends_in}
use Rattle.phys_proc.specs.Procs.{IsLeast}
use Rattle.phys_proc.proofs.proc.Proc.least.Given as goal

abbrev pub invariant-loop-i : goal.invariant-loop-i
invariant-loop-i l = IsLeast (ends_in l.model.horizon l.ends) (take l.i l.self.copies) l.least
