use Rattle.std.proofs.Common.{◌≡◌, length, take}
use Rattle.watch_points.specs.Starting.{AreStarted}
use Rattle.watch_points.proofs.watcher.Watcher.new.Given as goal

abbrev pub invariant-watches : goal.invariant-watches
invariant-watches l = record {
  many : length l.active.items ≡ l.i;
  started : AreStarted l.model.value l.lists.clones (take l.i l.items) l.active.items;
}
