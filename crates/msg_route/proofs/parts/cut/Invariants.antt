use Rattle.std.proofs.Common.{◌≡◌, ◌++◌, drop}
use Rattle.std.specs.List.{filter_map, enumerate_from}
use Rattle.msg_route.specs.Routing.{part_for, parts_of}
use Rattle.msg_route.proofs.parts.cut.Given as goal

abbrev pub invariant-loop-receiver : goal.invariant-loop-receiver
invariant-loop-receiver l =
    l.parts.items ++ filter_map (part_for l.senders) (enumerate_from l.receiver (drop l.receiver l.receivers))
    ≡ parts_of l.senders l.receivers
