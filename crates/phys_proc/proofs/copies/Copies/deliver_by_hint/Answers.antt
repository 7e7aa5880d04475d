use Rattle.std.proofs.Common.{subst, sym}
use Rattle.clone_sets.specs.Sets.{has}
use Rattle.run_laws.specs.Copies.{Disjoint}
use Rattle.phys_proc.proofs.copies.Copies.deliver_by_hint.Goals as goal

pub deliver_from-requires : goal.deliver_from-requires
deliver_from-requires c = record {
  may_deliver = record {
    disjoint = subst (Disjoint has) (sym c.self.view_is) c.requires.disjoint;
    each = c.self.invariant;
  };
}
