use Rattle.std.proofs.Common.{ap, subst}
use Rattle.copy_pending.specs.Merged.{CopyPendingView, IsLowerBoundOf}
use Rattle.copy_pending.proofs.Bounds.{bound_of_first, bound_of_none}
use Rattle.copy_pending.proofs.pending.CopyPending.partial_time.Goals as goal

pub returns-in-Some : goal.returns-in-Some
returns-in-Some c = record {
  bound = subst (λ (v : CopyPendingView). IsLowerBoundOf c.in-Some.time v.partial) c.self.view_is
      (bound_of_first c.in-Some.time c.self.inside.partial c.in-Some.ensures.value c.least-least.ensures.ordered);
}

pub returns-in-None : goal.returns-in-None
returns-in-None c = record {
  bound = subst (λ (v : CopyPendingView). IsLowerBoundOf _ v.partial) c.self.view_is
      (bound_of_none _ c.self.inside.partial c.in-None.ensures.value);
}
