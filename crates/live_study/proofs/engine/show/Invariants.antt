use Rattle.std.proofs.Common.{◌≡◌, ◌≤◌, length, true}
use Rattle.live_study.specs.Showing.{AreShownTo, TellsEach}
use Rattle.live_study.proofs.engine.show.Given as goal

abbrev pub invariant-loop-s : goal.invariant-loop-s
invariant-loop-s g l = record {
  within : l.s ≤ length l.fn.world.net.sites;
  same : l.world ≡ l.fn.world;
  shown : AreShownTo l.helm l.fn.world l.s l.stocker.stock.published;
  readers : l.stocker.stock.readers ≡ l.fn.stocker.stock.readers;
  tells : l.last ≡ true → 1 ≤ l.s
      → TellsEach l.stocker.stock.readers l.stocker.stock.has_published (length l.stocker.stock.spares.items);
}
