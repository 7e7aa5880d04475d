use Rattle.std.proofs.Common.{sym, ◌∙◌}
use Rattle.stations.proofs.Places.{take-next}
use Rattle.stations.proofs.restoring.queue_of.Goals as goal

pub loop-place-preserved : goal.loop-place-preserved
loop-place-preserved c =
    c.in_ok-push.ensures.ok
    ∙ (rw c.loop-place.invariant (sym (take-next c.args.line.now c.loop-place.place c.get.result c.get.ensures)))
