use Rattle.shelf.specs.Racks.{HasRack}
use Rattle.engine_tests.specs.Seen.{AreSeenUpTo}
use Rattle.engine_tests.proofs.shelf_tests.publish_all.Given as goal

abbrev pub invariant-loop : goal.invariant-loop
invariant-loop g l = record {
  seen : AreSeenUpTo l.world.net l.world.front l.stocker.stock.published;
  has_rack : HasRack 1 l.stocker.stock.published;
}
