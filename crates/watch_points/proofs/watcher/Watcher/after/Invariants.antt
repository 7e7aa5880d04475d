use Rattle.std.specs.Prelude.{IfSome}
use Rattle.watch_points.specs.Peaks.{IsPeak}
use Rattle.watch_points.specs.Watchers.{IsPassing, IsStep}
use Rattle.watch_points.proofs.watcher.Watcher.after.Given as goal

abbrev pub invariant-watches : goal.invariant-watches
invariant-watches l = record {
  passing : IsPassing l.self l.world l.i;
  step : IsStep l.initial.self l.self l.initial.world l.world;
  peak : IfSome l.peak (IsPeak l.world);
}
