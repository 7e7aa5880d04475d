use Rattle.std.proofs.Common.{ap, ◌∙◌}
use Rattle.trace_report.specs.Outputs.{report}
use Rattle.trace_writer.specs.WorldTraces.{WorldTracesView}
use Rattle.cloner_top.proofs.WatchedRuns.{report_ordered}
use Rattle.cloner_top.proofs.putting.put_watched.Goals as goal

pub prepare_run-requires-clause-same_report : goal.prepare_run-requires-clause-same_report
prepare_run-requires-clause-same_report g c =
    ap (λ (v : WorldTracesView). report c.args.model.now v.clones) c.in_order-traces.ensures.value
    ∙ report_ordered _ _ _ c.requires.order
