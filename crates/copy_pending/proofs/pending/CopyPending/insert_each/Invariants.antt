use Rattle.std.proofs.Common.{◌≡◌, length}
use Rattle.copy_pending.specs.Merged.{messages_of, put_each}
use Rattle.copy_pending.proofs.pending.CopyPending.insert_each.Given as goal

abbrev pub invariant-loop-msg : goal.invariant-loop-msg
invariant-loop-msg l = (l.self.set ≡ l.fn.self.set)
    × (put_each l.messages (messages_of l.self) ≡ put_each l.initial.messages (messages_of l.fn.self))

abbrev pub decreases-loop-msg : goal.decreases-loop-msg
decreases-loop-msg l = length l.messages
