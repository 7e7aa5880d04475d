use Rattle.std.proofs.Common.{take}
use Rattle.phys_proc.specs.Ends.{ends_in}
use Rattle.station_steps.specs.Mail.{IsEarliest, IsMailTaken}
use Rattle.station_steps.specs.Windows.{mail_for}
use Rattle.station_steps.proofs.sent_list.SentList.earlier_for.Given as goal

abbrev pub invariant-loop-i : goal.invariant-loop-i
invariant-loop-i l = IsEarliest l.fn.before (IsMailTaken (ends_in l.horizon l.ends) l.clones
    (mail_for l.station (take l.i l.self.items))) l.least
