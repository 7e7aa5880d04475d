use Rattle.shelf.specs.Racks.{HasRack}
use Rattle.engine_tests.proofs.shelf_looks.finds_all.Given as goal

abbrev pub invariant-loop-i : goal.invariant-loop-i
invariant-loop-i g l = record { gate : HasRack 1 l.seat; desk : HasRack 2 l.seat }
