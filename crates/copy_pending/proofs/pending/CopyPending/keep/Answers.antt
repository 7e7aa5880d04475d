use Rattle.std.proofs.Common.{◌∙◌, ap, sym, subst}
use Rattle.sim_base.specs.Pending.{cut_by}
use Rattle.clone_sets.specs.Sets.{common}
use Rattle.copy_pending.specs.Merged.{CopyPendingView, merged, messages_of, put_each, IsPart}
use Rattle.copy_pending.proofs.Firsts.{part_messages}
use Rattle.copy_pending.proofs.pending.CopyPending.keep.Goals as goal

pub returns : goal.returns
returns c =
    let p = c.self.inside in
    let part : IsPart c.args.by p.set =
    subst (IsPart c.args.by) (sym (ap (λ (x : CopyPendingView). x.set) c.self.view_is)) c.requires.part in
    record {
      set = c.in_ok-insert_each.ensures.same;
      value = c.in_ok-insert_each.ensures.ok
          ∙ (λ j. put_each (c.keep.ensures.value j) (merged c.args.by p.common (c.new.ensures.value j)))
          ∙ part_messages p.set c.args.by p.common p.partial part c.least-least.ensures.ordered
          ∙ ap (λ (x : CopyPendingView). cut_by common c.args.by (messages_of x)) c.self.view_is;
    }
