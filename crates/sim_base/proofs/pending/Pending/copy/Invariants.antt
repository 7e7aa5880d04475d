use Rattle.std.proofs.Common.{◌≡◌, ◌++◌}
use Rattle.std.specs.VecDeque.Iter.{deque_iter_rest}
use Rattle.sim_base.proofs.pending.Pending.copy.Given as goal

abbrev pub invariant-loop-block : goal.invariant-loop-block
invariant-loop-block g l = l.later.items ++ deque_iter_rest l.block-iterator ≡ deque_iter_rest l.initial.block-iterator
