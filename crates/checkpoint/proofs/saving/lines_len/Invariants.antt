use Rattle.std.proofs.Common.{◌≡◌, ◌+◌, ◌≤◌, length}
use Rattle.std.specs.List.{flat_map}
use Rattle.trace_report.specs.TraceText.{entry_line}
use Rattle.checkpoint.proofs.saving.lines_len.Given as goal

abbrev pub invariant-loop-entry : goal.invariant-loop-entry
invariant-loop-entry l =
    (l.len + length (flat_map (entry_line l.model) l.walk) ≡ length (flat_map (entry_line l.model) l.trace))
    × (l.len ≤ l.most)

abbrev pub decreases-loop-entry : goal.decreases-loop-entry
decreases-loop-entry l = length l.walk
