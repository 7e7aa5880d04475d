use Rattle.std.proofs.Common.{◌≡◌, ◌++◌, take, drop}
use Rattle.sim_base.specs.Pending.{cut_by}
use Rattle.sim_base.proofs.pending.block.Block.keep.Given as goal

abbrev pub invariant-loop : goal.invariant-loop
invariant-loop g l = l.self-inside.items.items ≡ drop l.counter l.fn.self
    ++ cut_by g.S.Marks.common l.by (take l.counter l.fn.self)
