use Rattle.std.proofs.Common.{◌≡◌, ◌++◌, length, map, true}
use Rattle.std.specs.List.{list_all}
use Rattle.trace_report.specs.declared.line.TheConstants.{MAX_LINE}
use Rattle.checkpoint.specs.RunSnapshots.{trace_line}
use Rattle.checkpoint.specs.TraceLines.{is_trace_line}
use Rattle.checkpoint.proofs.saving.print_lines.Given as goal

abbrev pub invariant-loop-entry : goal.invariant-loop-entry
invariant-loop-entry l =
    (l.lines ++ map (trace_line l.model) l.walk ≡ map (trace_line l.model) l.trace)
    × (list_all is_trace_line (map (trace_line l.model) l.walk) ≡ true)
    × (length l.page ≡ MAX_LINE)

abbrev pub decreases-loop-entry : goal.decreases-loop-entry
decreases-loop-entry l = length l.walk
