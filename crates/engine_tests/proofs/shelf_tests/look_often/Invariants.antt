use Rattle.shelf.specs.Racks.{HasRack}
use Rattle.engine_tests.proofs.shelf_tests.look_often.Given as goal

abbrev pub invariant-loop : goal.invariant-loop
invariant-loop g l = HasRack 1 l.seat
