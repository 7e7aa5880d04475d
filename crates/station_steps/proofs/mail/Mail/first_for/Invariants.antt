use Rattle.std.proofs.Common.{take}
use Rattle.std.specs.List.{flat_map}
use Rattle.station_steps.specs.Mail.{IsFirstFor, SentView}
use Rattle.station_steps.proofs.mail.Mail.first_for.Given as goal

abbrev pub invariant-loop-i : goal.invariant-loop-i
invariant-loop-i l = IsFirstFor l.station (flat_map (λ (x : SentView). x.items) (take l.i l.self-inside.lists.items))
    l.first
