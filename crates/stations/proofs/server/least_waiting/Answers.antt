use Rattle.std.proofs.Common.{sym, ◌∙◌}
use Rattle.stations.proofs.Lines.{least_class-drop}
use Rattle.stations.proofs.server.least_waiting.Goals as goal

pub loop-place-preserved : goal.loop-place-preserved
loop-place-preserved c =
    rw (c.min-least.ensures, c.class_of.ensures.value)
    (sym (least_class-drop c.args.model.now c.args.jobs.now c.loop-place.place c.get-in-loop-place.result
    c.get-in-loop-place.ensures c.loop-place.least) ∙ c.loop-place.invariant)
