use Rattle.std.proofs.Common.{◌≡◌, take}
use Rattle.base_tests.proofs.solo_run_tests.resumed.copy_states.Given as goal

abbrev pub invariant-loop-i : goal.invariant-loop-i
invariant-loop-i l = l.states.items ≡ take l.i l.solo.states
