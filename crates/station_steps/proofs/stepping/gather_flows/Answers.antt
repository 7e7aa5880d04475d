use Rattle.std.proofs.Common.{ap, ◌∙◌}
use Rattle.std.specs.List.{flat_map}
use Rattle.std.proofs.lemmas.List.Folds.{flat_map-map}
use Rattle.station_steps.specs.declared.station_step.StationStep.{StationStep}
use Rattle.station_steps.specs.Mail.{SentView}
use Rattle.station_steps.proofs.stepping.gather_flows.Goals as goal

pub returns-clause-sent : goal.returns-clause-sent
returns-clause-sent c = c.in_ok-mail.ensures.value
    ∙ ap (flat_map (λ (l : SentView). l.items)) c.in_ok-stepped.ensures.sent
    ∙ flat_map-map (λ (l : SentView). l.items) (λ (f : StationStep). f.sent) c.args.flows.items
