use Rattle.std.proofs.Common.{◌≡◌, drop}
use Rattle.sim_base.specs.Blocks.{of_blocks}
use Rattle.log_chain.proofs.walk.walk_along_blocks.Given as goal

abbrev pub invariant-loop-i : goal.invariant-loop-i
invariant-loop-i l = of_blocks (drop l.i l.blocks) ≡ of_blocks l.blocks
