use Rattle.std.proofs.Common.{◌≡◌, ◌++◌, drop}
use Rattle.phys_proc.proofs.sent.SentMessages.append.Given as goal

abbrev pub invariant-loop-pair : goal.invariant-loop-pair
invariant-loop-pair l = l.self ++ drop l.pair-index l.pair-items ≡ l.fn.self ++ l.pair-items
