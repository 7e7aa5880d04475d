use Rattle.std.proofs.Common.{◌≡◌, take}
use Rattle.log_chain.specs.Segments.{entries_in, lengths}
use Rattle.log_chain.proofs.segments.share_segments.Given as goal

abbrev pub invariant-loop-segment : goal.invariant-loop-segment
invariant-loop-segment l = record {
  entries : entries_in l.copies.items ≡ entries_in (take l.segment-index l.segments);
  lengths : lengths l.copies.items ≡ lengths (take l.segment-index l.segments);
}
