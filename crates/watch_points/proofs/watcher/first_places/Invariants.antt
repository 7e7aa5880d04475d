use Rattle.std.proofs.Common.{◌≡◌}
use Rattle.std.specs.List.{range_with_len}
use Rattle.watch_points.proofs.watcher.first_places.Given as goal

abbrev pub invariant-below : goal.invariant-below
invariant-below l = l.places.items ≡ range_with_len 0 l.i
