use Rattle.std.proofs.Common.{take}
use Rattle.station_steps.specs.Windows.{AllDelivered}
use Rattle.station_steps.proofs.delivery.deliver_packed.Given as goal

abbrev pub invariant-loop-pair : goal.invariant-loop-pair
invariant-loop-pair l = AllDelivered (take l.pair-index l.sent) l.fn.procs.items l.procs.items
