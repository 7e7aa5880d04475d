use Rattle.std.proofs.Common.{take}
use Rattle.log_chain.specs.Packing.{FitWords}
use Rattle.sim_base.specs.Blocks.{of_blocks}
use Rattle.log_chain.proofs.blocks.are_packed.Given as goal

abbrev pub invariant-loop-block : goal.invariant-loop-block
invariant-loop-block l = FitWords (of_blocks (take l.block-index l.blocks))
