use Rattle.std.proofs.Common.{◌≡◌, ◌++◌, take}
use Rattle.sim_base.specs.Blocks.{of_blocks}
use Rattle.log_chain.specs.Segments.{entries_in}
use Rattle.log_chain.proofs.segments.join_segments.Given as goal

abbrev pub invariant-loop-segment : goal.invariant-loop-segment
invariant-loop-segment l = l.list ≡ entries_in (take l.segment-index l.segments)

abbrev pub invariant-loop-block : goal.invariant-loop-block
invariant-loop-block l = l.list ≡ entries_in l.segments ++ of_blocks (take l.block-index l.blocks)
