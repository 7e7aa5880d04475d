use Rattle.engine_tests.specs.Abreast.{AreAbreast}
use Rattle.engine_tests.proofs.world_core_tests.begin_with.Given as goal

abbrev pub invariant-loop-i : goal.invariant-loop-i
invariant-loop-i l = AreAbreast l.book l.world
