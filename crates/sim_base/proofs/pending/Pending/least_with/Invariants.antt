use Rattle.std.proofs.Common.{◌≡◌}
use Rattle.std.specs.VecDeque.Iter.{deque_iter_rest}
use Rattle.sim_base.specs.Blocks.{of_blocks}
use Rattle.sim_base.specs.Pending.{cut_by}
use Rattle.sim_base.proofs.pending.Pending.least_with.Given as goal

abbrev pub invariant-loop-block : goal.invariant-loop-block
invariant-loop-block g l = cut_by g.S.Marks.common l.by (of_blocks (deque_iter_rest l.block-iterator))
    ≡ cut_by g.S.Marks.common l.by l.self
