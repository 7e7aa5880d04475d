use Rattle.phys_proc.specs.Procs.{IsProc}
use Rattle.engine_tests.proofs.phys_proc_tests.clones_alike.Given as goal

abbrev pub invariant-loop-c : goal.invariant-loop-c
invariant-loop-c l = IsProc l.model l.proc
