use Rattle.std.proofs.Common.{◌≡◌, ◌++◌, drop}
use Rattle.decision_book.specs.Scripts.{accepted_of}
use Rattle.decision_desk.proofs.next_front.accepted_calls.Given as goal

abbrev pub invariant-loop-call : goal.invariant-loop-call
invariant-loop-call l = l.fresh.items ++ accepted_of (drop l.call-index l.calls) ≡ accepted_of l.calls
