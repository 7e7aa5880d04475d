use Rattle.std.proofs.Common.{◌++◌, ap, sym, ◌∙◌, subst, arith, length}
use Rattle.std.proofs.lemmas.List.{append-nil}
use Rattle.std.specs.VecDeque.Iter.{deque_iter_rest}
use Rattle.sim_base.specs.Pending.{cut_by}
use Rattle.sim_base.specs.Order.{msg_cmp}
use Rattle.sim_base.specs.Marked.{SortedMarked}
use Rattle.sim_base.specs.Blocks.{of_blocks, AreFilled, AreSized}
use Rattle.sim_base.proofs.Cutting.{cut-append, SortedMarked-cut, length-cut}
use Rattle.sim_base.proofs.Rotating.{cut_more, cut_end}
use Rattle.sim_base.proofs.pending.Pending.cut.Goals as goal

-- ---- the first block is cut, and no later one yet

pub loop-block-init : goal.loop-block-init
loop-block-init g c =
    let meet = g.S.Marks.common in
    let first = c.self.inside.first in
    let later = c.self.inside.later.items in
    let rest = ap deque_iter_rest c.into_iter-block-iterator.ensures.into_iter_gives
    ∙ c.iter-block-items.ensures.rest in
    let none = c.new-later.ensures.items in
    let short = length-cut meet c.args.by first in
    let long = ap length c.in_ok-first.ensures.value in
    record {
      all =
          ap (λ bs. (c.in_ok-first.first ++ of_blocks bs)
          ++ cut_by meet c.args.by (of_blocks (deque_iter_rest c.into_iter-block-iterator.result))) none
          ∙ ap (λ xs. xs ++ cut_by meet c.args.by (of_blocks (deque_iter_rest c.into_iter-block-iterator.result)))
          (append-nil c.in_ok-first.first ∙ c.in_ok-first.ensures.value)
          ∙ ap (λ bs. cut_by meet c.args.by first ++ cut_by meet c.args.by (of_blocks bs)) rest
          ∙ sym (cut-append meet c.args.by first (of_blocks later)) ∙ ap (cut_by meet c.args.by) c.self.view_is;
      sized = subst (λ bs. AreSized c.in_ok-first.first bs) (sym none)
          (record {
            first_filled = λ l. absurd (omega arith);
            first_small = omega (arith, c.self.invariant.sized.first_small);
            later_filled = tt;
          });
      rest = subst AreFilled (sym rest) c.self.invariant.sized.later_filled;
    }

-- ---- one block more is cut

pub add_block-requires-clause-small : goal.add_block-requires-clause-small
add_block-requires-clause-small g c =
    let filled = subst AreFilled c.in-Some.ensures.steps c.loop-block.invariant.rest in
    let short = length-cut g.S.Marks.common c.args.by c.in-Some.block.now in
    let long = ap length c.in_ok-cut.ensures.value in
    omega (arith, filled.0.1)

pub loop-block-preserved : goal.loop-block-preserved
loop-block-preserved g c =
    let filled = subst AreFilled c.in-Some.ensures.steps c.loop-block.invariant.rest in
    record {
      all = cut_more g.S.Marks.common c.args.by (c.loop-block.first ++ of_blocks c.loop-block.later.items)
          (c.add_block.new.first ++ of_blocks c.add_block.new.later.items) c.in-Some.block.now c.in_ok-cut.field-0 _ _
          _ c.in_ok-add_block.ensures.all c.in_ok-cut.ensures.value c.in-Some.ensures.steps c.loop-block.invariant.all;
      sized = c.in_ok-add_block.ensures.sized;
      rest = filled.1;
    }

-- ---- all blocks are cut

pub invariant_of-result : goal.invariant_of-result
invariant_of-result g c =
    let meet = g.S.Marks.common in
    let all = cut_end meet c.args.by (c.loop-block.first ++ of_blocks c.loop-block.later.items) _ _
    c.in-None.ensures.steps.0 c.loop-block.invariant.all in
    let sorted = subst (SortedMarked msg_cmp) c.self.view_is c.self.invariant.sorted in
    record {
      sorted = subst (SortedMarked msg_cmp) (sym all)
          (SortedMarked-cut meet c.args.by msg_cmp c.args.self.now sorted);
      sized = c.loop-block.invariant.sized;
    }
