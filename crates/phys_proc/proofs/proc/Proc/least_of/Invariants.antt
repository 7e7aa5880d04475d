use Rattle.std.proofs.Common.{take}
use Rattle.phys_proc.specs.Ends.{ends_in}
use Rattle.phys_proc.specs.Procs.{IsLeastOf}
use Rattle.phys_proc.proofs.proc.Proc.least_of.Given as goal

abbrev pub invariant-loop-copy : goal.invariant-loop-copy
invariant-loop-copy l = IsLeastOf (ends_in l.model.horizon l.ends) (take l.copy-index l.self.copies) l.c l.least
