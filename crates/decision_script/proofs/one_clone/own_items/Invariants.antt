use Rattle.std.proofs.Common.{◌≡◌, length, take, reverse}
use Rattle.decision_script.specs.Alone.{item_history}
use Rattle.decision_script.proofs.one_clone.own_items.Given as goal

abbrev pub invariant-loop-item : goal.invariant-loop-item
invariant-loop-item l = record {
  can : (goal.iterator-loop-item).can_next l.item-iterator;
  finite : (goal.iterator-loop-item).is_finite l.item-iterator;
  history : l.history ≡ item_history l.who (reverse (take (length l.yielded) (reverse l.items)));
}
