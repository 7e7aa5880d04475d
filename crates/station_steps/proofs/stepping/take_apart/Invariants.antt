use Rattle.std.proofs.Common.{◌≡◌, ◌++◌, map}
use Rattle.std.specs.Vec.Iter.{into_iter_items}
use Rattle.station_steps.specs.declared.station_step.StationStep.{StationStep}
use Rattle.station_steps.proofs.stepping.take_apart.Given as goal

abbrev pub invariant-loop-flow : goal.invariant-loop-flow
invariant-loop-flow l =
    (goal.iterator-loop-flow).can_next l.flow-iterator ×
    (goal.iterator-loop-flow).is_finite l.flow-iterator ×
    (l.procs.items ++ map (λ (f : StationStep). f.done) (into_iter_items l.flow-iterator)
    ≡ map (λ (f : StationStep). f.done) l.fn.flows.items) ×
    (l.lists.items ++ map (λ (f : StationStep). f.sent) (into_iter_items l.flow-iterator)
    ≡ map (λ (f : StationStep). f.sent) l.fn.flows.items)
