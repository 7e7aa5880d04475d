use Rattle.std.proofs.Common.{◌≡◌, ◌++◌, take}
use Rattle.watch_points.specs.Branches.{present}
use Rattle.watch_points.specs.Progress.{places_of}
use Rattle.watch_points.specs.Watchers.{progress_of}
use Rattle.watch_points.proofs.watcher.push_places.Given as goal

abbrev pub invariant-watches : goal.invariant-watches
invariant-watches l = l.order.items
    ≡ l.initial.order.items ++ present (places_of (progress_of (take l.a-index l.active)))
