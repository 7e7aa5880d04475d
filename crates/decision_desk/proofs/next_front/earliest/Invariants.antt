use Rattle.std.proofs.Common.{◌≡◌, drop}
use Rattle.run_laws.specs.Fronts.{earlier}
use Rattle.decision_desk.specs.Leasts.{earliest}
use Rattle.decision_desk.proofs.next_front.earliest.Given as goal

abbrev pub invariant-loop-time : goal.invariant-loop-time
invariant-loop-time l = earlier l.first (earliest (drop l.time-index l.times)) ≡ earliest l.times
