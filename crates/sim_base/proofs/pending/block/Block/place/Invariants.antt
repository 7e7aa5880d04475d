use Rattle.std.proofs.Common.{◌≡◌, ℕ, ◌+◌, ◌-◌, ◌<◌, ◌≤◌, true, false, length, get_or}
use Rattle.std.specs.Ordering.{is_gt}
use Rattle.sim_base.specs.declared.message.Msg.{Msg}
use Rattle.sim_base.specs.Order.{msg_cmp}
use Rattle.sim_base.proofs.pending.block.Block.place.Given as goal

abbrev pub invariant-loop-low : goal.invariant-loop-low
invariant-loop-low g l = record {
  order : l.low ≤ l.high;
  within : l.high ≤ length l.self-inside.items.items;
  before : (d : Msg × g.row.S.Denot) (j : ℕ) → j + 1 ≡ l.low
      → is_gt (msg_cmp l.msg (get_or l.self-inside.items.items j d).0) ≡ true;
  behind : (d : Msg × g.row.S.Denot) → l.high < length l.self-inside.items.items
      → is_gt (msg_cmp l.msg (get_or l.self-inside.items.items l.high d).0) ≡ false;
}

abbrev pub decreases-loop-low : goal.decreases-loop-low
decreases-loop-low g l = l.high - l.low
