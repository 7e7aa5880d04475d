use Rattle.std.proofs.Common.{◌≡◌, ◌++◌, length}
use Rattle.solo_run.specs.EventLists.{all_messages}
use Rattle.solo_run.proofs.event_list.EventList.messages.Given as goal

abbrev pub invariant-loop-msg : goal.invariant-loop-msg
invariant-loop-msg l = l.all.items ++ all_messages l.list ≡ all_messages l.self

abbrev pub decreases-loop-msg : goal.decreases-loop-msg
decreases-loop-msg l = length (all_messages l.list)
