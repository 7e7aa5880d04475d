use Rattle.std.proofs.Common.{◌≡◌}
use Rattle.std.specs.VecDeque.Iter.{deque_iter_rest}
use Rattle.sim_base.specs.Pending.{cut_by}
use Rattle.sim_base.proofs.pending.block.Block.first_with.Given as goal

abbrev pub invariant-loop-item : goal.invariant-loop-item
invariant-loop-item g l = cut_by g.S.Marks.common l.by (deque_iter_rest l.item-iterator)
    ≡ cut_by g.S.Marks.common l.by l.self
