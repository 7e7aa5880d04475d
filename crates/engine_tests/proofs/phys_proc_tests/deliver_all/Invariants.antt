use Rattle.phys_proc.specs.Procs.{IsProc}
use Rattle.engine_tests.proofs.phys_proc_tests.deliver_all.Given as goal

abbrev pub invariant-loop-i : goal.invariant-loop-i
invariant-loop-i l = IsProc l.model l.proc
