use Rattle.std.proofs.Common.{◌≡◌, ℕ, ◌+◌, ◌-◌, ◌<◌, ◌≤◌, [], true, false, length, get_or}
use Rattle.sim_base.specs.Blocks.{StartsAfter}
use Rattle.sim_base.specs.Order.{msg_cmp}
use Rattle.sim_base.proofs.pending.blocks.block_of.Given as goal

abbrev pub invariant-loop-low : goal.invariant-loop-low
invariant-loop-low g l = record {
  order : l.low ≤ l.high;
  within : l.high ≤ length l.later.items;
  before : (j : ℕ) → j + 1 ≡ l.low → StartsAfter msg_cmp l.msg (get_or l.later.items j []) false;
  behind : l.high < length l.later.items → StartsAfter msg_cmp l.msg (get_or l.later.items l.high []) true;
}

abbrev pub decreases-loop-low : goal.decreases-loop-low
decreases-loop-low g l = l.high - l.low
