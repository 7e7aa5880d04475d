use Rattle.sim_outer.specs.Views.{SinkView}
use Rattle.cloner_top.proofs.FactLaws.{completes, cut_cause, finished, formless, idle}
use Rattle.cloner_top.proofs.FactLaws.{output_same, stop_cause, told_for, unread_cause, usage_cause}
use Rattle.std.proofs.Common.{ap}
use Rattle.cloner_top.proofs.program.cloner.Goals as goal

pub returns-clause-finished : goal.returns-clause-finished
returns-clause-finished g c = λ zero. finished _ _ _ _ c.run_or_report.ensures.answer zero

pub returns-clause-usage : goal.returns-clause-usage
returns-clause-usage g c =
    (usage_cause _ _ _ _ c.run_or_report.ensures.answer, formless _ _ _ _ c.run_or_report.ensures.answer)

pub returns-clause-unread : goal.returns-clause-unread
returns-clause-unread g c = unread_cause _ _ _ _ c.run_or_report.ensures.answer

pub returns-clause-refused : goal.returns-clause-refused
returns-clause-refused g c = stop_cause _ _ _ _ c.run_or_report.ensures.answer

pub returns-clause-cut : goal.returns-clause-cut
returns-clause-cut g c = cut_cause _ _ _ _ c.run_or_report.ensures.answer

pub returns-clause-output_same : goal.returns-clause-output_same
returns-clause-output_same g c = λ not_0 not_8.
    let same = output_same _ _ _ _ c.run_or_report.ensures.answer not_0 not_8 in
    (ap (λ (s : SinkView). s.bytes) same, ap (λ (s : SinkView). s.calls) same)

pub returns-clause-told : goal.returns-clause-told
returns-clause-told g c = told_for _ _ _ _ c.run_or_report.ensures.answer

pub returns-clause-idle : goal.returns-clause-idle
returns-clause-idle g c = idle _ _ _ _ c.run_or_report.ensures.answer

pub returns-clause-complete : goal.returns-clause-complete
returns-clause-complete g c = completes _ _ _ _ c.run_or_report.ensures.answer
