use Rattle.std.proofs.Common.{◌≡◌, [], subst, true, get_or, arith}
use Rattle.sim_base.specs.Blocks.{StartsAfter}
use Rattle.sim_base.specs.Order.{msg_cmp}
use Rattle.sim_base.proofs.pending.blocks.block_of.Goals as goal

pub returns : goal.returns
returns g c =
    let inv = c.loop-low.invariant in
    let same : c.loop-low.high ≡ c.loop-low.low = omega arith in
    record {
      value = record {
        within = omega (arith, inv.within);
        before = inv.before;
        behind = λ l. subst (λ i. StartsAfter msg_cmp c.args.msg.now (get_or c.args.later.now.items i []) true) same
            (inv.behind (omega arith));
      };
    }
