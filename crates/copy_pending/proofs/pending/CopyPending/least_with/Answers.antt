use Rattle.std.proofs.Common.{◌∙◌, ap, sym, slice_get}
use Rattle.sim_base.specs.Pending.{cut_by}
use Rattle.clone_sets.specs.Sets.{common}
use Rattle.copy_pending.specs.Merged.{CopyPendingView, messages_of}
use Rattle.copy_pending.proofs.Firsts.{merged-cut_none, merged-cut_some}
use Rattle.copy_pending.proofs.pending.CopyPending.least_with.Goals as goal

pub returns-in-Some : goal.returns-in-Some
returns-in-Some c = record {
  value = c.first_of.ensures.value (cut_by common c.args.by c.self.inside.partial) c.least_with-other.ensures.value
      ∙ ap (λ q. slice_get q 0) (sym (merged-cut_some c.self.inside.set c.args.by c.in-Some.shared
      c.self.inside.common c.self.inside.partial (sym c.in-Some.ensures) c.least-least.ensures.ordered))
      ∙ ap (λ (v : CopyPendingView). slice_get (cut_by common c.args.by (messages_of v)) 0) c.self.view_is;
}

pub returns-in-None : goal.returns-in-None
returns-in-None c = record {
  value = c.least_with-other.ensures.value
      ∙ ap (λ q. slice_get q 0) (sym (merged-cut_none c.self.inside.set c.args.by c.self.inside.common
      c.self.inside.partial (sym c.in-None.ensures)))
      ∙ ap (λ (v : CopyPendingView). slice_get (cut_by common c.args.by (messages_of v)) 0) c.self.view_is;
}
