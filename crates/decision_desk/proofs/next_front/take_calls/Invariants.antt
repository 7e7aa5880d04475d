use Rattle.std.proofs.Common.{◌≡◌, drop}
use Rattle.decision_desk.specs.Leasts.{leasts_with_calls}
use Rattle.decision_desk.proofs.next_front.take_calls.Given as goal

abbrev pub invariant-loop-call : goal.invariant-loop-call
invariant-loop-call l = leasts_with_calls l.lists.clones l.times.items (drop l.call-index l.fresh)
    ≡ leasts_with_calls l.lists.clones l.fn.times.items l.fresh
