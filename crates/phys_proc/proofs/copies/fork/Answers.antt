use Rattle.std.proofs.Common.{arith, ap, ap₂, ◌∙◌, get_or, slice_set}
use Rattle.phys_proc.specs.Own.{copy_after_fork}
use Rattle.phys_proc.proofs.Delivery.{map_first-suc, map_first-length}
use Rattle.phys_proc.proofs.copies.fork.Goals as goal

pub loop-i-preserved : goal.loop-i-preserved
loop-i-preserved c =
    let f = copy_after_fork c.args.old c.args.new in
    let d = c.index_mut.result.now in
    ap₂ (λ l y. slice_set l c.loop-i.i y) c.loop-i.invariant
    (c.fork_copy.ensures.forked ∙ ap f
    (c.index_mut.ensures.value ∙ ap (λ l. get_or l c.loop-i.i d) c.loop-i.invariant))
    ∙ map_first-suc f c.loop-i.i c.args.copies.now.items d
    (omega (arith, c.loop-i-test.true, c.loop-i.auto.i-end, c.len-i-end.ensures, c.args.copies.now.ok.0))

pub returns : goal.returns
returns c = record {
  forked = c.loop-i.invariant
      ∙ map_first-length (copy_after_fork c.args.old c.args.new) c.loop-i.i c.args.copies.now.items
      (omega (arith, c.loop-i-test.false, c.loop-i.auto.i-end, c.len-i-end.ensures, c.args.copies.now.ok.0));
}
