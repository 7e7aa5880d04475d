use Rattle.std.proofs.Common.{sym, ◌∙◌}
use Rattle.stations.proofs.Places.{take-next}
use Rattle.stations.proofs.saving.line_of.Goals as goal

pub loop-place-preserved : goal.loop-place-preserved
loop-place-preserved c =
    c.in_ok-push.ensures.items
    ∙ (rw c.loop-place.invariant (sym (take-next c.args.queue.now c.loop-place.place c.get.result c.get.ensures)))
