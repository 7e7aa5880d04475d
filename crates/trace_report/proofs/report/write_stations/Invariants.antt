use Rattle.std.proofs.Common.{◌≡◌, ◌+◌, ◌*◌, ◌≤◌, ◌++◌, take}
use Rattle.std.specs.List.{flat_map, zip}
use Rattle.trace_report.specs.ReportText.{station_line}
use Rattle.trace_report.specs.declared.report.TheConstants.{MAX_REPORT_LINE}
use Rattle.trace_report.proofs.report.write_stations.Given as goal

abbrev pub invariant-loop-s : goal.invariant-loop-s
invariant-loop-s l =
    (take l.at l.bytes ≡ take l.start l.initial.bytes ++ flat_map (λ beside. station_line beside.0 beside.1)
    (take l.s (zip l.model.sites l.figures)))
    × (l.at ≤ l.start + MAX_REPORT_LINE * l.s)
