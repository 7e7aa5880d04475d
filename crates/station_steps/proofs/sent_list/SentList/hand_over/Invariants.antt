use Rattle.std.proofs.Common.{take}
use Rattle.station_steps.specs.Windows.{IsDeliveredTo, mail_for}
use Rattle.station_steps.proofs.sent_list.SentList.hand_over.Given as goal

abbrev pub invariant-loop-i : goal.invariant-loop-i
invariant-loop-i l = IsDeliveredTo (mail_for l.fn.proc.station (take l.i l.self.items)) l.fn.proc l.proc
