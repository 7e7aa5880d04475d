use Rattle.std.proofs.Common.{◌∙◌, ap, subst, sym, arith}
use Rattle.copy_pending.specs.Merged.{CopyPendingView, messages_of, IsLowerBoundOf}
use Rattle.copy_pending.proofs.Bounds.{merged_bound, merged_bound_none}
use Rattle.copy_pending.proofs.pending.CopyPending.lower_bound.Goals as goal

pub returns-in-Some : goal.returns-in-Some
returns-in-Some c =
    let p = c.self.inside in
    let others = subst (λ (v : CopyPendingView). IsLowerBoundOf c.partial_time-others.result v.partial)
    (sym c.self.view_is) c.partial_time-others.ensures.bound in
    let m = c.min.ensures in
    record {
      bound = subst (λ (v : CopyPendingView). IsLowerBoundOf c.min.result (messages_of v)) c.self.view_is
          (merged_bound p.set c.min.result c.in-Some.time c.partial_time-others.result p.common p.partial
          c.in-Some.ensures.value c.first_time.ensures.sorted others (omega (arith, m)) (omega (arith, m)));
    }

pub returns-in-None : goal.returns-in-None
returns-in-None c =
    let p = c.self.inside in
    let others = subst (λ (v : CopyPendingView). IsLowerBoundOf c.partial_time-others.result v.partial)
    (sym c.self.view_is) c.partial_time-others.ensures.bound in
    record {
      bound = subst (λ (v : CopyPendingView). IsLowerBoundOf c.partial_time-others.result (messages_of v)) c.self.view_is
          (merged_bound_none p.set c.partial_time-others.result p.common p.partial c.in-None.ensures.value others);
    }
