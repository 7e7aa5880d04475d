use Rattle.std.proofs.Common.{sym, ap, ◌∙◌}
use Rattle.sim_base.proofs.Elements.{in_at}
use Rattle.clone_sets.specs.Sets.{has}
use Rattle.world_core.proofs.tracing.copy_of.Goals as goal

pub returns-then-has-clause-some : goal.returns-then-has-clause-some
returns-then-has-clause-some c = record {
  is_copy = in_at c.args.copies.now c.loop-copy.copy-index c.copy-item.result c.loop-copy-test.true c.copy-item.is;
  is_in = ap (λ k. has k c.args.c) (sym c.set.ensures.value) ∙ sym c.has.ensures ∙ c.if-has.true;
}
