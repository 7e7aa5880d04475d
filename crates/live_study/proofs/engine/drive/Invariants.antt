use Rattle.std.proofs.Common.{◌≡◌, ◌-◌, length}
use Rattle.live_study.specs.Driving.{CountsOnce}
use Rattle.live_study.specs.Engines.{InStep, Steers}
use Rattle.live_study.specs.Showing.{AreShownOf, TellsEach}
use Rattle.live_study.proofs.engine.drive.Given as goal

abbrev pub invariant-turns : goal.invariant-turns
invariant-turns g l = record {
  steers : Steers l.fn.engine.helm l.engine.helm;
  in_step : InStep l.engine.helm l.world;
  counted : CountsOnce l.fn.world l.world l.fn.steps l.steps;
  shown : AreShownOf l.engine.helm l.world l.engine.stocker.stock.published;
  readers : l.engine.stocker.stock.readers ≡ l.fn.engine.stocker.stock.readers;
  tells : l.world.front ≡ l.world.net.horizon
      → TellsEach l.engine.stocker.stock.readers l.engine.stocker.stock.has_published
      (length l.engine.stocker.stock.spares.items);
}

abbrev pub decreases-turns : goal.decreases-turns
decreases-turns g l = l.world.net.horizon - l.world.front
