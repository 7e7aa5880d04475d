use Rattle.std.proofs.Common.{sym, ap, ◌∙◌, length}
use Rattle.sim_base.proofs.Elements.{in_at}
use Rattle.clone_sets.specs.Sets.{has, size}
use Rattle.phys_proc.specs.Racks.{RackCopyView}
use Rattle.phys_proc.proofs.rack.find_copy.Goals as goal

pub returns-then-has-clause-some : goal.returns-then-has-clause-some
returns-then-has-clause-some c =
    let is = c.copy.view_is in (
      c.copy-item.result,
      in_at c.args.copies.now c.loop-copy.copy-index c.copy-item.result c.loop-copy-test.true c.copy-item.is,
      ap (λ (u : RackCopyView). has u.set c.args.c) (sym is) ∙ sym c.if-has.ensures,
      c.len.ensures.value ∙ ap (λ (u : RackCopyView). length u.log) is,
      c.len-then-has.ensures.value ∙ ap (λ (u : RackCopyView). size u.set) is,
    )
