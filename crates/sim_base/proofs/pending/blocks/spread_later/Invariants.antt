use Rattle.std.proofs.Common.{◌≡◌, ◌++◌, map, take, drop}
use Rattle.sim_base.specs.Pending.{spread_marks}
use Rattle.sim_base.proofs.pending.blocks.spread_later.Given as goal

abbrev pub invariant-loop-i : goal.invariant-loop-i
invariant-loop-i g l = l.later.items ≡ map (spread_marks g.S.Marks.union g.S.Marks.common l.by l.more)
    (take l.i l.fn.later.items) ++ drop l.i l.fn.later.items
