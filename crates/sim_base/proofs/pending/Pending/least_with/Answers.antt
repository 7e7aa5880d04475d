use Rattle.std.proofs.Common.{ap, sym, ◌∙◌}
use Rattle.std.specs.Prelude.{slice_get}
use Rattle.std.specs.VecDeque.Iter.{deque_iter_rest}
use Rattle.sim_base.specs.Pending.{cut_by}
use Rattle.sim_base.specs.Blocks.{of_blocks}
use Rattle.sim_base.proofs.Cutting.{cut-append, first_of_some, first_of_none}
use Rattle.sim_base.proofs.pending.Pending.least_with.Goals as goal

pub returns-in-Some : goal.returns-in-Some
returns-in-Some g c =
    let meet = g.S.Marks.common in
    let first = c.self.inside.first in
    let rest = of_blocks c.self.inside.later.items in
    let here = sym (first_of_some (cut_by meet c.args.by first) (cut_by meet c.args.by rest) c.in-Some.found
    (sym c.in-Some.ensures.value)) in
    record {
      value = here ∙ ap (λ xs. slice_get xs 0) (sym (cut-append meet c.args.by first rest)
          ∙ ap (cut_by meet c.args.by) c.self.view_is);
    }

pub loop-block-init : goal.loop-block-init
loop-block-init g c =
    let meet = g.S.Marks.common in
    let first = c.self.inside.first in
    let rest = of_blocks c.self.inside.later.items in
    ap (λ bs. cut_by meet c.args.by (of_blocks bs))
    (ap deque_iter_rest c.into_iter-block-iterator.ensures.into_iter_gives ∙ c.iter-block-items.ensures.rest)
    ∙ sym (first_of_none (cut_by meet c.args.by first) (cut_by meet c.args.by rest) (sym c.in_default.ensures.value))
    ∙ sym (cut-append meet c.args.by first rest) ∙ ap (cut_by meet c.args.by) c.self.view_is

pub returns-in-Some-first_with : goal.returns-in-Some-first_with
returns-in-Some-first_with g c =
    let meet = g.S.Marks.common in
    let block = c.in-Some-block.block.now in
    let rest = of_blocks (deque_iter_rest c.next.new.self) in
    let here = sym (first_of_some (cut_by meet c.args.by block) (cut_by meet c.args.by rest) c.in-Some-first_with.found
    (sym c.in-Some-first_with.ensures.value)) in
    record {
      value = here ∙ ap (λ xs. slice_get xs 0) (sym (cut-append meet c.args.by block rest)
          ∙ ap (λ bs. cut_by meet c.args.by (of_blocks bs)) (sym c.in-Some-block.ensures.steps)
          ∙ c.loop-block.invariant);
    }

pub loop-block-preserved : goal.loop-block-preserved
loop-block-preserved g c =
    let meet = g.S.Marks.common in
    let block = c.in-Some-block.block.now in
    let rest = of_blocks (deque_iter_rest c.next.new.self) in
    sym (first_of_none (cut_by meet c.args.by block) (cut_by meet c.args.by rest)
    (sym c.in_default-first_with.ensures.value))
    ∙ sym (cut-append meet c.args.by block rest) ∙ ap (λ bs. cut_by meet c.args.by (of_blocks bs))
    (sym c.in-Some-block.ensures.steps) ∙ c.loop-block.invariant
