use Rattle.std.proofs.Common.{◌≡◌, take, drop, [], None}
use Rattle.checkpoint.specs.Due.{first_bad}
use Rattle.snapshot_text.specs.Counts.{HasCounts}
use Rattle.snapshot_text.proofs.accepting.first_bad.Given as goal

abbrev pub invariant-loop-index : goal.invariant-loop-index
invariant-loop-index l = record {
  same : first_bad l.model l.front l.saved [] None l.due
      ≡ first_bad l.model l.front l.saved (take l.index l.due) l.last (drop l.index l.due);
  counts : HasCounts l.counts (take l.index l.due);
}
