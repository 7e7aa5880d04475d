use Rattle.std.proofs.Common.{◌≡◌, sym, ◌∙◌, subst, true, false, get_or, arith}
use Rattle.std.specs.Ordering.{is_gt}
use Rattle.sim_base.specs.Blocks.{IsPlaceOf}
use Rattle.sim_base.specs.Order.{msg_cmp}
use Rattle.sim_base.proofs.Placing.{gt_at}
use Rattle.sim_base.proofs.pending.block.Block.place.Goals as goal

pub loop-low-preserved-then-comes_after : goal.loop-low-preserved-then-comes_after
loop-low-preserved-then-comes_after g c =
    let inv = c.loop-low.invariant in
    let answer = sym (sym c.if-comes_after.true ∙ c.comes_after.ensures.value) in
    record {
      order = omega arith;
      within = inv.within;
      before = λ d j e. gt_at msg_cmp c.args.msg.now c.self.inside.items.items c.next_look-middle.result j
          c.index.result.now d true (omega arith) (omega (arith, inv.within)) c.index.ensures answer;
      behind = inv.behind;
    }

pub loop-low-preserved : goal.loop-low-preserved
loop-low-preserved g c =
    let inv = c.loop-low.invariant in
    let answer = sym (sym c.if-comes_after.false ∙ c.comes_after.ensures.value) in
    record {
      order = omega arith;
      within = omega (arith, inv.within);
      before = inv.before;
      behind = λ d l. gt_at msg_cmp c.args.msg.now c.self.inside.items.items c.next_look-middle.result
          c.next_look-middle.result c.index.result.now d false (omega arith)
          (omega (arith, inv.within)) c.index.ensures answer;
    }

pub returns : goal.returns
returns g c =
    let inv = c.loop-low.invariant in
    let same : c.loop-low.high ≡ c.loop-low.low = omega arith in
    record {
      value = subst (λ xs. IsPlaceOf msg_cmp c.args.msg.now xs c.loop-low.low) c.self.view_is (record {
        within = omega (arith, inv.within);
        before = inv.before;
        behind = λ d l. subst (λ i. is_gt (msg_cmp c.args.msg.now (get_or c.self.inside.items.items i d).0) ≡ false)
            same (inv.behind d (omega arith));
      });
    }
