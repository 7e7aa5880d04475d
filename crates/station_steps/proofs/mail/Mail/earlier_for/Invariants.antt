use Rattle.std.proofs.Common.{take}
use Rattle.std.specs.List.{flat_map}
use Rattle.phys_proc.specs.Ends.{ends_in}
use Rattle.station_steps.specs.Mail.{IsEarliest, IsMailTaken, SentView}
use Rattle.station_steps.specs.Windows.{mail_for}
use Rattle.station_steps.proofs.mail.Mail.earlier_for.Given as goal

abbrev pub invariant-loop-i : goal.invariant-loop-i
invariant-loop-i l = IsEarliest l.fn.before (IsMailTaken (ends_in l.horizon l.ends) l.clones
    (mail_for l.station (flat_map (λ (x : SentView). x.items) (take l.i l.self-inside.lists.items)))) l.least
