use Rattle.std.proofs.Common.{take}
use Rattle.std.specs.List.{AllByRecursion}
use Rattle.station_steps.specs.Mail.{IsNoted}
use Rattle.station_steps.proofs.sent_list.SentList.of.Given as goal

abbrev pub invariant-loop-i : goal.invariant-loop-i
invariant-loop-i l = AllByRecursion (IsNoted l.firsts.items) (take l.i l.fn.messages)
