use Rattle.std.proofs.Common.{◌++◌, ap, sym, ◌∙◌, subst, arith, length}
use Rattle.std.proofs.lemmas.List.{map-append, length-map}
use Rattle.sim_base.specs.Pending.{spread_marks}
use Rattle.sim_base.specs.Order.{msg_cmp}
use Rattle.sim_base.specs.Marked.{SortedMarked}
use Rattle.sim_base.specs.Blocks.{of_blocks}
use Rattle.sim_base.proofs.Cutting.{SortedMarked-spread}
use Rattle.sim_base.proofs.pending.Pending.spread.Goals as goal

pub invariant_of-self : goal.invariant_of-self
invariant_of-self g c =
    let spread = spread_marks g.S.Marks.union g.S.Marks.common c.args.by c.args.more in
    let first = c.self.inside.first in
    let rest = of_blocks c.self.inside.later.items in
    let all = ap (λ xs. xs ++ of_blocks c.spread_later.new.later.items) c.spread.ensures.value
    ∙ ap (λ ys. spread first ++ ys) c.spread_later.ensures.value ∙ sym (map-append _ first rest) in
    let long = ap length c.spread.ensures.value ∙ length-map first _ in
    record {
      sorted = subst (SortedMarked msg_cmp) (sym all)
          (SortedMarked-spread g.S.Marks.union g.S.Marks.common c.args.by c.args.more msg_cmp
          (first ++ rest) c.self.invariant.sorted);
      sized = record {
        first_filled = λ l. let old = c.self.invariant.sized.first_filled
            (omega (arith, c.spread_later.ensures.count)) in omega arith;
        first_small = omega (arith, c.self.invariant.sized.first_small);
        later_filled = c.spread_later.ensures.filled;
      };
    }
