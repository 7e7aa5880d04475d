use Rattle.std.proofs.Common.{◌≡◌, ℕ, ◌<◌, get_or}
use Rattle.link_clocks.specs.NetClocks.{AreBoundsTo}
use Rattle.link_clocks.proofs.clocks.set_to_next.Given as goal

abbrev pub invariant-loop-bound : goal.invariant-loop-bound
invariant-loop-bound l = (k : ℕ) → k < l.bound-index → get_or l.bounds k 0 ≡ l.horizon

abbrev pub invariant-senders : goal.invariant-senders
invariant-senders l = AreBoundsTo l.model l.clocks l.x l.bounds
