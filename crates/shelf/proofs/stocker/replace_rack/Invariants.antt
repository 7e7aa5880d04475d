use Rattle.std.proofs.Common.{◌≡◌, ◌≤◌, length, map}
use Rattle.std.specs.Arc.{arc_value}
use Rattle.shelf.specs.Racks.{EachIs, with_rack}
use Rattle.shelf.proofs.stocker.replace_rack.Given as goal

abbrev pub invariant-loop-i : goal.invariant-loop-i
invariant-loop-i l = record {
  within : l.i ≤ length l.racks;
  count : length l.all.items ≡ l.i;
  each : EachIs (with_rack (map arc_value l.racks) l.place l.rack.value) (map arc_value l.all.items);
}
