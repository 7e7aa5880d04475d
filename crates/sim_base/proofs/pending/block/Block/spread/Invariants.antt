use Rattle.std.proofs.Common.{◌≡◌, ◌++◌, take, drop}
use Rattle.sim_base.specs.Pending.{spread_marks}
use Rattle.sim_base.specs.Blocks.{StartsAt}
use Rattle.sim_base.proofs.pending.block.Block.spread.Given as goal

abbrev pub invariant-loop-i : goal.invariant-loop-i
invariant-loop-i g l = record {
  items : l.self-inside.items.items ≡ spread_marks g.S.Marks.union g.S.Marks.common l.by l.more
      (take l.i l.fn.self) ++ drop l.i l.fn.self;
  time : StartsAt l.self-inside.time l.self-inside.items.items;
}
