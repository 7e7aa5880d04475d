use Rattle.std.proofs.Common.{take}
use Rattle.std.specs.List.{flat_map}
use Rattle.station_steps.specs.Mail.{SentView}
use Rattle.station_steps.specs.Windows.{IsDeliveredTo, mail_for}
use Rattle.station_steps.proofs.mail.Mail.hand_over.Given as goal

abbrev pub invariant-loop-i : goal.invariant-loop-i
invariant-loop-i l = IsDeliveredTo
    (mail_for l.fn.proc.station (flat_map (λ (x : SentView). x.items) (take l.i l.self-inside.lists.items)))
    l.fn.proc l.proc
