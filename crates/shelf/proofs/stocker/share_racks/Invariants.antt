use Rattle.std.proofs.Common.{◌≡◌, ◌++◌, map}
use Rattle.std.specs.Arc.{arc_value}
use Rattle.std.specs.Vec.Iter.{into_iter_items}
use Rattle.shelf.proofs.stocker.share_racks.Given as goal

abbrev pub invariant-loop-rack : goal.invariant-loop-rack
invariant-loop-rack l =
    (goal.iterator-loop-rack).can_next l.rack-iterator ×
    (goal.iterator-loop-rack).is_finite l.rack-iterator ×
    (map arc_value l.all.items ++ into_iter_items l.rack-iterator ≡ l.fn.racks.items)
