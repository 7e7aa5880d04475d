use Rattle.std.proofs.Common.{◌≡◌, ◌++◌, length}
use Rattle.std.specs.Vec.Iter.{into_iter_items}
use Rattle.msg_route.specs.Grouping.{group_of, group_onto}
use Rattle.msg_route.proofs.groups.group.Given as goal

abbrev pub invariant-loop-msg : goal.invariant-loop-msg
invariant-loop-msg l =
    (goal.iterator-loop-msg).can_next l.msg-iterator ×
    (goal.iterator-loop-msg).is_finite l.msg-iterator ×
    (group_onto (into_iter_items l.msg-iterator) l.pending ≡ group_of l.fn.sent.items)

abbrev pub invariant-loop-pair : goal.invariant-loop-pair
invariant-loop-pair l = l.grouped.items ++ l.pending ≡ group_of l.fn.sent.items

abbrev pub decreases-loop-pair : goal.decreases-loop-pair
decreases-loop-pair l = length l.pending
