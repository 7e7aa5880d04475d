use Rattle.std.proofs.Common.{◌++◌, ap, sym, ◌∙◌, subst, arith, length}
use Rattle.sim_base.specs.Pending.{cut_by}
use Rattle.sim_base.specs.Order.{msg_cmp}
use Rattle.sim_base.specs.Marked.{SortedMarked}
use Rattle.sim_base.specs.Blocks.{of_blocks}
use Rattle.sim_base.proofs.Cutting.{cut-append, SortedMarked-cut, length-cut}
use Rattle.sim_base.proofs.Placing.{sorted_right}
use Rattle.sim_base.proofs.Rotating.{filled_if, empty_if}
use Rattle.sim_base.proofs.pending.Pending.keep.Goals as goal

-- ---- the blocks stay in order

pub invariant_of-self : goal.invariant_of-self
invariant_of-self g c =
    let first = c.self.inside.first in
    let rest = of_blocks c.self.inside.later.items in
    let all = c.next_block.ensures.same ∙ c.keep_later.ensures.value in
    record {
      sorted = subst (SortedMarked msg_cmp) (sym all)
          (SortedMarked-cut g.S.Marks.common c.args.by msg_cmp rest
          (sorted_right msg_cmp first rest c.self.invariant.sorted));
      sized = c.next_block.ensures.sized;
    }

pub invariant_of-self-else-is_empty : goal.invariant_of-self-else-is_empty
invariant_of-self-else-is_empty g c =
    let meet = g.S.Marks.common in
    let first = c.self.inside.first in
    let rest = of_blocks c.self.inside.later.items in
    let all = ap (λ xs. xs ++ of_blocks c.keep_later.new.later.items) c.keep.ensures.value
    ∙ ap (λ ys. cut_by meet c.args.by first ++ ys) c.keep_later.ensures.value
    ∙ sym (cut-append meet c.args.by first rest) in
    let some = filled_if c.keep.new.self c.if-is_empty.ensures.value in
    let short = length-cut meet c.args.by first in
    let same = ap length c.keep.ensures.value in
    record {
      sorted = subst (SortedMarked msg_cmp) (sym all)
          (SortedMarked-cut meet c.args.by msg_cmp (first ++ rest) c.self.invariant.sorted);
      sized = record {
        first_filled = λ _. some;
        first_small = omega (arith, c.self.invariant.sized.first_small);
        later_filled = c.keep_later.ensures.filled;
      };
    }

-- ---- no message of the first block stays

pub returns-then-is_empty : goal.returns-then-is_empty
returns-then-is_empty g c =
    let meet = g.S.Marks.common in
    let first = c.self.inside.first in
    let rest = of_blocks c.self.inside.later.items in
    let none = sym c.keep.ensures.value ∙ empty_if c.keep.new.self c.if-is_empty.ensures.value in
    record {
      value = c.next_block.ensures.same ∙ c.keep_later.ensures.value ∙ ap (λ xs. xs ++ cut_by meet c.args.by rest)
          (sym none) ∙ sym (cut-append meet c.args.by first rest) ∙ ap (cut_by meet c.args.by) c.self.view_is;
    }

-- ---- some message of the first block stays

pub returns-else-is_empty : goal.returns-else-is_empty
returns-else-is_empty g c =
    let meet = g.S.Marks.common in
    let first = c.self.inside.first in
    let rest = of_blocks c.self.inside.later.items in
    let all = ap (λ xs. xs ++ of_blocks c.keep_later.new.later.items) c.keep.ensures.value
    ∙ ap (λ ys. cut_by meet c.args.by first ++ ys) c.keep_later.ensures.value
    ∙ sym (cut-append meet c.args.by first rest) in
    record { value = all ∙ ap (cut_by meet c.args.by) c.self.view_is }
