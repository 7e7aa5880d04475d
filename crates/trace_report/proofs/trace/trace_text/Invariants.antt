use Rattle.std.proofs.Common.{◌≡◌, ◌++◌, take, codes, length}
use Rattle.std.specs.List.{flat_map}
use Rattle.trace_report.specs.TraceText.{entry_line}
use Rattle.trace_report.specs.declared.line.TheConstants.{MAX_LINE}
use Rattle.trace_report.proofs.trace.trace_text.Given as goal

abbrev pub invariant-loop-entry : goal.invariant-loop-entry
invariant-loop-entry l =
    (l.text.items ≡ codes "clone " ++ l.name ++ codes "\n" ++ flat_map (entry_line l.model)
    (take l.entry-index l.entries))
    × (length l.page ≡ MAX_LINE)
