use Rattle.std.proofs.Common.{take}
use Rattle.log_chain.specs.Packing.{FitWords}
use Rattle.log_chain.specs.Segments.{entries_in}
use Rattle.log_chain.proofs.segments.are_packed.Given as goal

abbrev pub invariant-loop-segment : goal.invariant-loop-segment
invariant-loop-segment l = FitWords (entries_in (take l.segment-index l.segments))
